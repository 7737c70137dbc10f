use Rattle.std.proofs.Common.{◌||◌, IsTrue, sym, subst, rules}
use Rattle.term_core.specs.Tree.{Symbol}
use Rattle.term_core.specs.Word.{is_word}
use Rattle.term_core.proofs.NameLemmas.{front-is-word}
use Rattle.term_core.proofs.name.Name.first_word.Goals as goal

pub invariant_of-result : goal.invariant_of-result
invariant_of-result c = (
  c.in_ok-text.ensures.short,
  subst (λ (name : Symbol). IsTrue (name.is_quoted || is_word name.text)) (sym c.in_ok-text.ensures.value)
      (front-is-word c.in-Some.first.now c.in-Some.rest.now c.args.text.now _ c.word_length.result (search rules)
      c.in-Some.ensures.cases.0 c.word_length.ensures.value c.split_at.ensures.front),
)
