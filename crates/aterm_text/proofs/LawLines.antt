-- The lines of a text over lines go on.
use Rattle.std.proofs.Common.{◌<◌, ℕ, ◌+◌, Bool, true, false, IsTrue, if◌then◌else◌, nat_le, List, [], ◌∷◌, ◌++◌, length, replicate, zero, suc, refl, arith}
use Rattle.std.specs.List.{AllByRecursion}
use Rattle.std.specs.Fmt.{signed_decimal}
use Rattle.term_core.specs.Tree.{Tree, Trees, integer, branch, application, list, tuple, none, more}
use Rattle.term_core.specs.Terms.{IsTerm, AreTerms}
use Rattle.aterm_text.specs.Laws.{IsPrinted, begins_with_space, LinesGoOn}
use Rattle.aterm_text.specs.Printed.{assembled, bracketed, print, print_name}
use Rattle.aterm_text.specs.Layout.{new_line, fitted, pretty, pretty_all, pretty_more}
use Rattle.aterm_text.specs.declared.layout.TheConstants.{LINE_WIDTH}
use Rattle.aterm_text.proofs.LawOneLine.{integer-line, name-line, printed-line}

-- ---- texts that go on

printed-goes-on : (x : List ℕ) → AllByRecursion IsPrinted x → LinesGoOn x
printed-goes-on [] h = tt
printed-goes-on (b ∷ x) h = ((λ e. absurd (omega (arith, h.0.0, e))), printed-goes-on x h.1)

begins-append : (x y : List ℕ) → IsTrue (begins_with_space x) → IsTrue (begins_with_space (x ++ y))
begins-append [] y h = absurd (cc)
begins-append (b ∷ x) y h = h

go-on-append : (x y : List ℕ) → LinesGoOn x → LinesGoOn y → LinesGoOn (x ++ y)
go-on-append [] y p q = q
go-on-append (b ∷ x) y p q = ((λ e. begins-append x y (p.0 e)), go-on-append x y p.1 q)

-- a sign, and what follows it
go-on-sign : (b : ℕ) (x : List ℕ) → 10 < b → LinesGoOn x → LinesGoOn (b ∷ x)
go-on-sign b x h p = ((λ e. absurd (omega (arith, h, e))), p)

spaces-go-on : (n : ℕ) → LinesGoOn (replicate n 32)
spaces-go-on zero = tt
spaces-go-on (suc n) = go-on-sign 32 (replicate n 32) (omega arith) (spaces-go-on n)

line-goes-on : (n : ℕ) → 0 < n → LinesGoOn (new_line n)
line-goes-on zero h = absurd (omega (arith, h))
line-goes-on (suc n) h = ((λ e. refl), spaces-go-on (suc n))

bracketed-goes-on : (o c : ℕ) (ts : Trees) (inner : List ℕ) → 10 < o → 10 < c → LinesGoOn inner
    → LinesGoOn (bracketed o c ts inner)
bracketed-goes-on o c none inner h k p = tt
bracketed-goes-on o c (more t ts) inner h k p =
    go-on-sign o (inner ++ c ∷ []) h (go-on-append inner (c ∷ []) p (go-on-sign c [] k tt))

-- ---- terms

assembled-goes-on : (t : Tree) (inner marks : List ℕ) → IsTerm t → LinesGoOn inner → LinesGoOn marks
    → LinesGoOn (assembled t inner marks)
assembled-goes-on (integer z notes) inner marks h p q =
    go-on-append (signed_decimal z) (bracketed 123 125 notes marks)
    (printed-goes-on (signed_decimal z) (integer-line z h.0).bytes)
    (bracketed-goes-on 123 125 notes marks (omega arith) (omega arith) q)
assembled-goes-on (branch (application name) kids notes) inner marks h p q =
    go-on-append (print_name name ++ bracketed 40 41 kids inner) (bracketed 123 125 notes marks)
    (go-on-append (print_name name) (bracketed 40 41 kids inner) (printed-goes-on (print_name name)
    (name-line name h.0).bytes) (bracketed-goes-on 40 41 kids inner (omega arith) (omega arith) p))
    (bracketed-goes-on 123 125 notes marks (omega arith) (omega arith) q)
assembled-goes-on (branch list kids notes) inner marks h p q =
    go-on-sign 91 (inner ++ 93 ∷ bracketed 123 125 notes marks) (omega arith)
    (go-on-append inner (93 ∷ bracketed 123 125 notes marks) p (go-on-sign 93 (bracketed 123 125 notes marks)
    (omega arith) (bracketed-goes-on 123 125 notes marks (omega arith) (omega arith) q)))
assembled-goes-on (branch tuple kids notes) inner marks h p q =
    go-on-sign 40 (inner ++ 41 ∷ bracketed 123 125 notes marks) (omega arith)
    (go-on-append inner (41 ∷ bracketed 123 125 notes marks) p (go-on-sign 41 (bracketed 123 125 notes marks)
    (omega arith) (bracketed-goes-on 123 125 notes marks (omega arith) (omega arith) q)))

one_of : (q : Bool) (x y : List ℕ) → LinesGoOn x → LinesGoOn y → LinesGoOn (if q then x else y)
one_of true x y p r = p
one_of false x y p r = r

fitted-goes-on : (n : ℕ) (t : Tree) (inner marks : List ℕ) → IsTerm t → LinesGoOn inner → LinesGoOn marks
    → LinesGoOn (fitted n (print t) (assembled t inner marks))
fitted-goes-on n t inner marks h p q =
    one_of (nat_le (n + length (print t)) LINE_WIDTH) (print t) (assembled t inner marks)
    (printed-goes-on (print t) (printed-line t h).bytes) (assembled-goes-on t inner marks h p q)

on_line : (n : ℕ) (x y : List ℕ) → 0 < n → LinesGoOn x → LinesGoOn y → LinesGoOn (new_line n ++ x ++ y)
on_line n x y h p q = go-on-append (new_line n ++ x) y (go-on-append (new_line n) x (line-goes-on n h) p) q

mutual
  term-goes-on : (t : Tree) (n : ℕ) → IsTerm t → LinesGoOn (pretty n t)
  term-goes-on (integer z notes) n h =
      fitted-goes-on n (integer z notes) [] (pretty_all (n + 2) notes) h tt (all-go-on notes (n + 2) (omega arith) h.1)
  term-goes-on (branch head kids notes) n h =
      fitted-goes-on n (branch head kids notes) (pretty_all (n + 2) kids) (pretty_all (n + 2) notes) h
      (all-go-on kids (n + 2) (omega arith) h.1) (all-go-on notes (n + 2) (omega arith) h.2)

  all-go-on : (ts : Trees) (n : ℕ) → 0 < n → AreTerms ts → LinesGoOn (pretty_all n ts)
  all-go-on none n k h = tt
  all-go-on (more t ts) n k h =
      on_line n (pretty n t) (pretty_more n ts) k (term-goes-on t n h.0) (more-go-on ts n k h.1)

  more-go-on : (ts : Trees) (n : ℕ) → 0 < n → AreTerms ts → LinesGoOn (pretty_more n ts)
  more-go-on none n k h = tt
  more-go-on (more t ts) n k h = go-on-sign 44 (new_line n ++ pretty n t ++ pretty_more n ts) (omega arith)
      (on_line n (pretty n t) (pretty_more n ts) k (term-goes-on t n h.0) (more-go-on ts n k h.1))

pub lines-go-on : (t : Tree) → IsTerm t → LinesGoOn (pretty 0 t)
lines-go-on t h = term-goes-on t 0 h
