use Rattle.std.proofs.Common.{ap, ap₂, codes, true, [], ◌∷◌, ◌≡◌, ◌∙◌}
use Rattle.std.specs.Prelude.{fold}
use Rattle.std.proofs.lemmas.Result.{IfOk-weaker}
use Rattle.clap.specs.Words.{app_of, new_app, with_rule}
use Rattle.clap.specs.Simple.{app_of_fields, on_top}
use Rattle.command_line.specs.Line.{files_option, flag_of, interactive_flag, max_steps_option, max_terms_option, max_tokens_option, named_app, steps_option}
use Rattle.command_line.proofs.words.command.Goals as goal

pub returns : goal.returns
returns c =
    let about_is : app_of c.about.result ≡ new_app (codes "stratbench") = ap app_of_fields c.about.ensures
    ∙ c.new.ensures.app in
    let version_is : app_of c.version.result ≡ named_app = ap app_of_fields c.version.ensures
    ∙ ap (on_top (λ s. record s { has_version = true })) about_is in
    let after_is : app_of c.after_help.result ≡ named_app = ap app_of_fields c.after_help.ensures ∙ version_is in
    let library = flag_of (codes "library") in
    let stop = flag_of (codes "stop") in
    let lines = flag_of (codes "lines") in
    let explain = flag_of (codes "explain") in
    let modules = files_option (codes "module") in
    let trees = files_option (codes "tree") in
    let writes = files_option (codes "write") in
    let over_lines = flag_of (codes "pretty") in
    let as_json = flag_of (codes "explain-json") in
    let check = flag_of (codes "check") in
    let first : app_of c.in_ok-arg.field-0 ≡ fold with_rule named_app (library ∷ []) =
    c.in_ok-arg.ensures.shape c.flag.ensures.local ∙ ap₂ with_rule after_is c.flag.ensures.rule in
    let second : app_of c.in_ok-arg-2.field-0 ≡ fold with_rule named_app (library ∷ steps_option ∷ []) =
    c.in_ok-arg-2.ensures.shape c.steps_option.ensures.local ∙ ap₂ with_rule first c.steps_option.ensures.rule in
    let second-steps : app_of c.in_ok-arg-3.field-0
    ≡ fold with_rule named_app (library ∷ steps_option ∷ max_steps_option ∷ []) =
    c.in_ok-arg-3.ensures.shape c.max_steps_option.ensures.local
    ∙ ap₂ with_rule second c.max_steps_option.ensures.rule in
    let second-terms : app_of c.in_ok-arg-4.field-0
    ≡ fold with_rule named_app (library ∷ steps_option ∷ max_steps_option ∷ max_terms_option ∷ []) =
    c.in_ok-arg-4.ensures.shape c.max_terms_option.ensures.local
    ∙ ap₂ with_rule second-steps c.max_terms_option.ensures.rule in
    let second-tokens : app_of c.in_ok-arg-5.field-0
    ≡ fold with_rule named_app (library ∷ steps_option ∷ max_steps_option ∷ max_terms_option ∷ max_tokens_option ∷ []) =
    c.in_ok-arg-5.ensures.shape c.max_tokens_option.ensures.local
    ∙ ap₂ with_rule second-terms c.max_tokens_option.ensures.rule in
    let third : app_of c.in_ok-arg-6.field-0 ≡ fold with_rule named_app
    (library ∷ steps_option ∷ max_steps_option ∷ max_terms_option ∷ max_tokens_option ∷ stop ∷ []) =
    c.in_ok-arg-6.ensures.shape c.flag-2.ensures.local ∙ ap₂ with_rule second-tokens c.flag-2.ensures.rule in
    let fourth : app_of c.in_ok-arg-7.field-0 ≡ fold with_rule named_app
    (library ∷ steps_option ∷ max_steps_option ∷ max_terms_option ∷ max_tokens_option ∷ stop ∷ lines ∷ []) =
    c.in_ok-arg-7.ensures.shape c.flag-3.ensures.local ∙ ap₂ with_rule third c.flag-3.ensures.rule in
    let fifth : app_of c.in_ok-arg-8.field-0 ≡ fold with_rule named_app
    (library ∷ steps_option ∷ max_steps_option ∷ max_terms_option ∷ max_tokens_option ∷ stop ∷ lines ∷ explain ∷ []) =
    c.in_ok-arg-8.ensures.shape c.flag-4.ensures.local ∙ ap₂ with_rule fourth c.flag-4.ensures.rule in
    let profile = flag_of (codes "profile") in
    let sixth : app_of c.in_ok-arg-9.field-0 ≡ fold with_rule named_app (library ∷ steps_option ∷ max_steps_option
    ∷ max_terms_option ∷ max_tokens_option ∷ stop ∷ lines ∷ explain ∷ profile ∷ []) =
    c.in_ok-arg-9.ensures.shape c.flag-5.ensures.local ∙ ap₂ with_rule fifth c.flag-5.ensures.rule in
    let seventh : app_of c.in_ok-arg-10.field-0 ≡ fold with_rule named_app (library ∷ steps_option ∷ max_steps_option
    ∷ max_terms_option ∷ max_tokens_option ∷ stop ∷ lines ∷ explain ∷ profile ∷ interactive_flag ∷ []) =
    c.in_ok-arg-10.ensures.shape c.interactive_flag.ensures.local
    ∙ ap₂ with_rule sixth c.interactive_flag.ensures.rule in
    let eighth : app_of c.in_ok-arg-11.field-0 ≡ fold with_rule named_app (library ∷ steps_option ∷ max_steps_option
    ∷ max_terms_option ∷ max_tokens_option ∷ stop ∷ lines ∷ explain ∷ profile ∷ interactive_flag ∷ modules ∷ []) =
    c.in_ok-arg-11.ensures.shape c.files_option.ensures.local ∙ ap₂ with_rule seventh c.files_option.ensures.rule in
    let ninth : app_of c.in_ok-arg-12.field-0 ≡ fold with_rule named_app (library ∷ steps_option ∷ max_steps_option ∷
    max_terms_option ∷ max_tokens_option ∷ stop ∷ lines ∷ explain ∷ profile ∷ interactive_flag ∷ modules ∷ trees ∷ []) =
    c.in_ok-arg-12.ensures.shape c.files_option-2.ensures.local ∙ ap₂ with_rule eighth c.files_option-2.ensures.rule in
    let tenth : app_of c.in_ok-arg-13.field-0 ≡ fold with_rule named_app
    (library ∷ steps_option ∷ max_steps_option ∷ max_terms_option ∷ max_tokens_option ∷ stop ∷ lines ∷ explain ∷ profile
    ∷ interactive_flag ∷ modules ∷ trees ∷ writes ∷ []) =
    c.in_ok-arg-13.ensures.shape c.files_option-3.ensures.local ∙ ap₂ with_rule ninth c.files_option-3.ensures.rule in
    let eleventh : app_of c.in_ok-arg-14.field-0 ≡ fold with_rule named_app
    (library ∷ steps_option ∷ max_steps_option ∷ max_terms_option ∷ max_tokens_option ∷ stop ∷ lines ∷ explain ∷ profile
    ∷ interactive_flag ∷ modules ∷ trees ∷ writes ∷ over_lines ∷ []) =
    c.in_ok-arg-14.ensures.shape c.flag-6.ensures.local ∙ ap₂ with_rule tenth c.flag-6.ensures.rule in
    let twelfth : app_of c.in_ok-arg-15.field-0 ≡ fold with_rule named_app
    (library ∷ steps_option ∷ max_steps_option ∷ max_terms_option ∷ max_tokens_option ∷ stop ∷ lines ∷ explain ∷ profile
    ∷ interactive_flag ∷ modules ∷ trees ∷ writes ∷ over_lines ∷ as_json ∷ []) =
    c.in_ok-arg-15.ensures.shape c.flag-7.ensures.local ∙ ap₂ with_rule eleventh c.flag-7.ensures.rule in
    let thirteenth : app_of c.in_ok-arg-16.field-0 ≡ fold with_rule named_app
    (library ∷ steps_option ∷ max_steps_option ∷ max_terms_option ∷ max_tokens_option ∷ stop ∷ lines ∷ explain ∷ profile
    ∷ interactive_flag ∷ modules ∷ trees ∷ writes ∷ over_lines ∷ as_json ∷ check ∷ []) =
    c.in_ok-arg-16.ensures.shape c.flag-8.ensures.local ∙ ap₂ with_rule twelfth c.flag-8.ensures.rule in
    IfOk-weaker c.arg-17.result _ _
    (λ made added. added.shape c.file_name.ensures.local ∙ ap₂ with_rule thirteenth c.file_name.ensures.rule)
    c.arg-17.ensures
