-- A text spells at most one term.
use Rattle.std.proofs.Common.{◌≡◌, ◌≢◌, ℕ, inl, inr, List, refl, sym, ap, ◌∙◌, subst, arith}
use Rattle.term_core.specs.Tree.{application, list, tuple, Tree, Trees, integer, branch, none, more, of_list, to_list}
use Rattle.term_core.proofs.TreeLemmas.{to_list-of_list}
use Rattle.aterm_text.specs.Grammar.{Reads, ReadsUntil, ReadsMore, Optional}
use Rattle.aterm_text.specs.inside.Beginnings.{an_integer, a_name, a_list, a_tuple}
use Rattle.aterm_text.specs.Laws.{OneTerm}
use Rattle.aterm_text.proofs.TokenLemmas.{class_of, begins_only, no_term-sign}
use Rattle.aterm_text.proofs.StepLemmas.{sign_only, same_sign, beginning_is, no_term-reads}

optional_only : (sign close : ℕ) (ts us : Trees) (a y z : List ℕ)
    → ((b v w : List ℕ) → ReadsUntil ts close b v → ReadsUntil us close b w → (ts ≡ us) × (v ≡ w))
    → Optional sign (λ u v. ReadsUntil ts close u v) ts a y → Optional sign (λ u v. ReadsUntil us close u v) us a z
    → (ts ≡ us) × (y ≡ z)
optional_only sign close ts us a y z only (inl h) (inl k) =
    only h.0 y z h.2 (subst (λ b. ReadsUntil us close b z) (sign_only sign a k.0 h.0 k.1 h.1) k.2)
optional_only sign close ts us a y z only (inl h) (inr k) = absurd (k.0 h.0 h.1)
optional_only sign close ts us a y z only (inr h) (inl k) = absurd (h.0 k.0 k.1)
optional_only sign close ts us a y z only (inr h) (inr k) = (h.1 ∙ sym k.1, h.2 ∙ sym k.2)

-- a closing bracket begins no term and is no comma
IsClosing : ℕ → Type 0
IsClosing c = (class_of c ≡ 0) × (c ≢ 44)

round : IsClosing 41
unfolding IsClosing
round = (refl, λ e. omega arith)

square : IsClosing 93
unfolding IsClosing
square = (refl, λ e. omega arith)

curly : IsClosing 125
unfolding IsClosing
curly = (refl, λ e. omega arith)

mutual
  unfolding IsClosing

  pub reads_only : (t u : Tree) (x y z : List ℕ) → Reads t x y → Reads u x z → (t ≡ u) × (y ≡ z)
  reads_only (integer v notes) (integer w others) x y z h k =
      let beginnings = begins_only (an_integer v) (an_integer w) x h.0 k.0 h.1 k.1 in
      let same : v ≡ w = cc in
      let rest = optional_only 123 125 notes others h.0 y z (λ b p q r s. until_only notes others 125 b p q curly r s)
      h.2 (subst (λ a. Optional 123 (λ p q. ReadsUntil others 125 p q) others a z) (sym beginnings.1) k.2) in
      ((λ i. integer (same i) (rest.0 i)), rest.1)
  reads_only (branch (application n) kids notes) (branch (application m) children others) x y z h k =
      let beginnings = begins_only (a_name n) (a_name m) x h.0 k.0 h.1 k.1 in
      let same : n ≡ m = cc in
      let inner =
      optional_only 40 41 kids children h.0 h.2.0 k.2.0 (λ b p q r s. until_only kids children 41 b p q round r s) h.2.1
      (subst (λ a. Optional 40 (λ p q. ReadsUntil children 41 p q) children a k.2.0) (sym beginnings.1) k.2.1) in
      let rest = optional_only 123 125 notes others h.2.0 y z (λ b p q r s. until_only notes others 125 b p q curly r s)
      h.2.2 (subst (λ a. Optional 123 (λ p q. ReadsUntil others 125 p q) others a z) (sym inner.1) k.2.2) in
      ((λ i. branch (application (same i)) (inner.0 i) (rest.0 i)), rest.1)
  reads_only (branch list kids notes) (branch list children others) x y z h k =
      let inner = until_only kids children 93 h.0 h.2.0 k.2.0 square h.2.1
      (subst (λ a. ReadsUntil children 93 a k.2.0) (sign_only 91 x k.0 h.0 k.1 h.1) k.2.1) in
      let rest = optional_only 123 125 notes others h.2.0 y z (λ b p q r s. until_only notes others 125 b p q curly r s)
      h.2.2 (subst (λ a. Optional 123 (λ p q. ReadsUntil others 125 p q) others a z) (sym inner.1) k.2.2) in
      ((λ i. branch list (inner.0 i) (rest.0 i)), rest.1)
  reads_only (branch tuple kids notes) (branch tuple children others) x y z h k =
      let inner = until_only kids children 41 h.0 h.2.0 k.2.0 round h.2.1
      (subst (λ a. ReadsUntil children 41 a k.2.0) (sign_only 40 x k.0 h.0 k.1 h.1) k.2.1) in
      let rest = optional_only 123 125 notes others h.2.0 y z (λ b p q r s. until_only notes others 125 b p q curly r s)
      h.2.2 (subst (λ a. Optional 123 (λ p q. ReadsUntil others 125 p q) others a z) (sym inner.1) k.2.2) in
      ((λ i. branch tuple (inner.0 i) (rest.0 i)), rest.1)
  reads_only (integer v notes) (branch (application m) children others) x y z h k = let beginnings =
      beginning_is (an_integer v) (branch (application m) children others) x h.0 z h.1 k in absurd (cc)
  reads_only (integer v notes) (branch list children others) x y z h k = let beginnings =
      beginning_is (an_integer v) (branch list children others) x h.0 z h.1 k in absurd (cc)
  reads_only (integer v notes) (branch tuple children others) x y z h k = let beginnings =
      beginning_is (an_integer v) (branch tuple children others) x h.0 z h.1 k in absurd (cc)
  reads_only (branch (application n) kids notes) (integer w others) x y z h k = let beginnings =
      beginning_is (a_name n) (integer w others) x h.0 z h.1 k in absurd (cc)
  reads_only (branch (application n) kids notes) (branch list children others) x y z h k = let beginnings =
      beginning_is (a_name n) (branch list children others) x h.0 z h.1 k in absurd (cc)
  reads_only (branch (application n) kids notes) (branch tuple children others) x y z h k = let beginnings =
      beginning_is (a_name n) (branch tuple children others) x h.0 z h.1 k in absurd (cc)
  reads_only (branch list kids notes) (integer w others) x y z h k = let beginnings =
      beginning_is a_list (integer w others) x h.0 z h.1 k in absurd (cc)
  reads_only (branch list kids notes) (branch (application m) children others) x y z h k = let beginnings =
      beginning_is a_list (branch (application m) children others) x h.0 z h.1 k in absurd (cc)
  reads_only (branch list kids notes) (branch tuple children others) x y z h k = let beginnings =
      beginning_is a_list (branch tuple children others) x h.0 z h.1 k in absurd (cc)
  reads_only (branch tuple kids notes) (integer w others) x y z h k = let beginnings =
      beginning_is a_tuple (integer w others) x h.0 z h.1 k in absurd (cc)
  reads_only (branch tuple kids notes) (branch (application m) children others) x y z h k = let beginnings =
      beginning_is a_tuple (branch (application m) children others) x h.0 z h.1 k in absurd (cc)
  reads_only (branch tuple kids notes) (branch list children others) x y z h k = let beginnings =
      beginning_is a_tuple (branch list children others) x h.0 z h.1 k in absurd (cc)

  until_only : (ts us : Trees) (close : ℕ) (x y z : List ℕ) → IsClosing close → ReadsUntil ts close x y
      → ReadsUntil us close x z → (ts ≡ us) × (y ≡ z)
  until_only none none close x y z c h k = (refl, sign_only close x y z h k)
  until_only none (more u us) close x y z c h k = absurd (no_term-reads u x k.0 (no_term-sign close x y c.0 h) k.1)
  until_only (more t ts) none close x y z c h k = absurd (no_term-reads t x h.0 (no_term-sign close x z c.0 k) h.1)
  until_only (more t ts) (more u us) close x y z c h k =
      let first = reads_only t u x h.0 k.0 h.1 k.1 in
      let rest = more_only ts us close h.0 y z c h.2 (subst (λ a. ReadsMore us close a z) (sym first.1) k.2) in
      ((λ i. more (first.0 i) (rest.0 i)), rest.1)

  more_only : (ts us : Trees) (close : ℕ) (x y z : List ℕ) → IsClosing close → ReadsMore ts close x y
      → ReadsMore us close x z → (ts ≡ us) × (y ≡ z)
  more_only none none close x y z c h k = (refl, sign_only close x y z h k)
  more_only none (more u us) close x y z c h k = absurd (c.1 (same_sign close 44 x y k.0 h k.1))
  more_only (more t ts) none close x y z c h k = absurd (c.1 (same_sign close 44 x z h.0 k h.1))
  more_only (more t ts) (more u us) close x y z c h k =
      let first =
      reads_only t u h.0 h.2.0 k.2.0 h.2.1 (subst (λ a. Reads u a k.2.0) (sign_only 44 x k.0 h.0 k.1 h.1) k.2.1) in
      let rest = more_only ts us close h.2.0 y z c h.2.2 (subst (λ a. ReadsMore us close a z) (sym first.1) k.2.2) in
      ((λ i. more (first.0 i) (rest.0 i)), rest.1)

pub one_term_spelled : OneTerm
one_term_spelled = record {
  term = λ x t u h k. (reads_only t u x h.0 k.0 h.1 k.1).0;
  annotations = λ x ts us h k.
      let inner = until_only (of_list ts) (of_list us) 125 h.1.0 h.0 k.0 curly h.1.2
      (subst (λ a. ReadsUntil (of_list us) 125 a k.0) (sign_only 123 x k.1.0 h.1.0 k.1.1 h.1.1) k.1.2) in
      sym (to_list-of_list ts) ∙ ap to_list inner.0 ∙ to_list-of_list us;
}
