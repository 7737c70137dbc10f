use Rattle.std.proofs.Common.{ap, codes, Some, [], ◌∷◌, ◌≡◌, ◌∙◌}
use Rattle.std.specs.Prelude.{pos}
use Rattle.clap.specs.Words.{Rule}
use Rattle.clap.specs.declared.builder.value_parser.ValueParser.TheVariants.{Signed}
use Rattle.command_line.proofs.words.max_terms_option.Goals as goal

pub returns-clause-rule : goal.returns-clause-rule
returns-clause-rule c =
    let given = c.value_parser-2.ensures.given in
    let range : c.range.result ≡ Signed (pos 100000) (pos 1000000000) =
    rw (c.value_parser.ensures, c.new-2.ensures.start, c.new-2.ensures.end) at c.range.ensures in
    let number : given.0 ≡ Signed (pos 100000) (pos 1000000000) = given.2 ∙ range in
    let parser : c.value_parser-2.result.value_parser ≡ Some (Signed (pos 100000) (pos 1000000000)) =
    rw number at given.1 in
    let parsed : c.value_parser-2.result
    ≡ record c.value_name.result { value_parser = Some (Signed (pos 100000) (pos 1000000000)) } =
    c.value_parser-2.ensures.others ∙ ap (λ p. record c.value_name.result { value_parser = p }) parser in
    rw (c.help.ensures, c.default_value.ensures, parsed, c.value_name.ensures, c.long.ensures)
    (ap (λ (r : Rule). record r {
      long = Some (codes "max-terms");
      value_names = 1;
      defaults = codes "100000" ∷ [];
      parser = Some (Signed (pos 100000) (pos 1000000000));
    }) c.new.ensures.rule)

pub returns-clause-local : goal.returns-clause-local
returns-clause-local c =
    rw (
      c.help.ensures,
      c.default_value.ensures,
      ap (λ a. a.global) c.value_parser-2.ensures.others,
      c.value_name.ensures,
      c.long.ensures,
    ) c.new.ensures.optional.1
