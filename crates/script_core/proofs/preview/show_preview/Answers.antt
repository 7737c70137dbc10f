use Rattle.std.proofs.Common.{◌≡◌, Ok, sym, ap, subst, ◌∙◌}
use Rattle.std.specs.FinMap as finmap
use Rattle.session_history.specs.History.{History}
use Rattle.session_core.specs.Previewing.{AreThere}
use Rattle.script_text.specs.Replies.{told_of}
use Rattle.script_core.proofs.PreviewLemmas.{are_in, same_tree, text_of_plan}
use Rattle.script_core.proofs.preview.show_preview.Goals as goal

pub write_preview-requires : goal.write_preview-requires
write_preview-requires g c =
    let p = c.in_ok-preview.ensures.answers.ok in
    let tree : c.in-Some.tree.now ≡ p.tree =
    same_tree c.in-Some.tree.now p.tree
    (c.in-Some.ensures.value ∙ ap (λ (h : History). finmap.get h.now.trees c.args.name.now) c.in_ok-preview.ensures.same
    ∙ p.held) in
    are_in c.in-Some.tree.now c.in_ok-preview.preview.plan p.shown.replacements p.plan
    (subst (λ t. AreThere t p.shown.replacements) (sym tree) p.there)

pub returns : goal.returns
returns g c =
    let p = c.in_ok-preview.ensures.answers.ok in
    let same = c.in_ok-preview.ensures.same in
    let tree : c.in-Some.tree.now ≡ p.tree =
    same_tree c.in-Some.tree.now p.tree
    (c.in-Some.ensures.value ∙ ap (λ (h : History). finmap.get h.now.trees c.args.name.now) same ∙ p.held) in
    let there = subst (λ t. AreThere t p.shown.replacements) (sym tree) p.there in
    let text = c.in_ok-write_preview.ensures ∙ text_of_plan c.in-Some.tree.now c.in_ok-preview.preview.plan
    c.in_ok-preview.preview.steps p.shown p.plan p.steps there in
    record { ok = (Ok p.shown, p.previews, (λ i. Ok (told_of (same i) (text i)))); refused = tt; err = tt }
