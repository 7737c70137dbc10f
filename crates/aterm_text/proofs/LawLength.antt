-- Printed text has at least one byte for each term in it.
use Rattle.std.proofs.Common.{◌+◌, ◌≤◌, ℕ, List, [], ◌∷◌, ◌++◌, length, arith}
use Rattle.std.proofs.lemmas.List.{length-append}
use Rattle.std.specs.Fmt.{signed_decimal}
use Rattle.term_core.specs.Tree.{Tree, Trees, integer, branch, application, list, tuple, none, more}
use Rattle.term_core.specs.Terms.{IsTerm, AreTerms}
use Rattle.term_core.specs.Size.{size, sizes}
use Rattle.aterm_text.specs.Printed.{print_name, bracketed, print, print_all, print_more}
use Rattle.aterm_text.specs.Laws.{PrintedTextIsAsLong}
use Rattle.aterm_text.proofs.LawOneLine.{integer-line, name-line}

-- brackets and their content
length-bracketed : (o c : ℕ) (ts : Trees) (inner : List ℕ) → sizes ts ≤ length inner
    → sizes ts ≤ length (bracketed o c ts inner)
length-bracketed o c none inner h = omega arith
length-bracketed o c (more t ts) inner h = omega (arith, h, length-append inner (c ∷ []))

with_annotations : (x : List ℕ) (notes : Trees) (n : ℕ) → n ≤ length x → sizes notes ≤ length (print_all notes)
    → n + sizes notes ≤ length (x ++ bracketed 123 125 notes (print_all notes))
with_annotations x notes n h k =
    omega (
      arith,
      h,
      length-append x (bracketed 123 125 notes (print_all notes)),
      length-bracketed 123 125 notes (print_all notes) k,
    )

mutual
  length-print : (t : Tree) → IsTerm t → size t ≤ length (print t)
  length-print (integer z notes) h = omega (
    arith,
    with_annotations (signed_decimal z) notes 1 (omega (arith, (integer-line z h.0).some)) (length-print_all notes h.1),
  )
  length-print (branch (application name) kids notes) h =
      let inner : List ℕ = bracketed 40 41 kids (print_all kids) in
      omega (
        arith,
        with_annotations (print_name name ++ inner) notes (1 + sizes kids)
            (omega (
              arith,
              (name-line name h.0).some,
              length-append (print_name name) inner,
              length-bracketed 40 41 kids (print_all kids) (length-print_all kids h.1),
            ))
            (length-print_all notes h.2),
      )
  length-print (branch list kids notes) h =
      let rest : List ℕ = bracketed 123 125 notes (print_all notes) in
      omega (
        arith,
        length-append (print_all kids) (93 ∷ rest),
        length-print_all kids h.1,
        length-bracketed 123 125 notes (print_all notes) (length-print_all notes h.2),
      )
  length-print (branch tuple kids notes) h =
      let rest : List ℕ = bracketed 123 125 notes (print_all notes) in
      omega (
        arith,
        length-append (print_all kids) (41 ∷ rest),
        length-print_all kids h.1,
        length-bracketed 123 125 notes (print_all notes) (length-print_all notes h.2),
      )

  length-print_all : (ts : Trees) → AreTerms ts → sizes ts ≤ length (print_all ts)
  length-print_all none h = omega arith
  length-print_all (more t ts) h =
      omega (arith, length-append (print t) (print_more ts), length-print t h.0, length-print_more ts h.1)

  length-print_more : (ts : Trees) → AreTerms ts → sizes ts ≤ length (print_more ts)
  length-print_more none h = omega arith
  length-print_more (more t ts) h =
      omega (arith, length-append (print t) (print_more ts), length-print t h.0, length-print_more ts h.1)

pub printed-length : PrintedTextIsAsLong
printed-length = length-print
