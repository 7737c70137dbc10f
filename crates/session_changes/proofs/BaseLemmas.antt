-- What is told of the changes since the base.
use Rattle.std.proofs.Common.{◌≡◌, ℕ, List, [], ◌∷◌, ◌++◌, length, codes, decimal, Some, None, Ok, Err, option_map, refl, sym, ap, ◌∙◌, subst, arith}
use Rattle.std.specs.declared.option.Option.{Option}
use Rattle.std.specs.List.{flat_map}
use Rattle.term_changes.specs.Contents.{Contents}
use Rattle.prim_core.specs.Signature.{Signature}
use Rattle.term_changes.specs.Slots.{Store, contents}
use Rattle.term_changes.specs.Entries.{Entry, before}
use Rattle.session_history.specs.Differences.{base_of, changes_of, diff_text, TellsChanges}
use Rattle.session_history.specs.Leading.{LeadsToBase}
use Rattle.session_history.specs.History.{History}
use Rattle.session_history.specs.Moving.{KeepsHistory}
use Rattle.session_history.specs.Unfolded.{Logged, unfolded}
use Rattle.session_modules.specs.declared.refusal.Refusal.{Refusal}
use Rattle.session_history.specs.declared.timeline.OpenGroup.{OpenGroup}
use Rattle.session_changes.specs.inside.Lined.{AddsLines}
use Rattle.session_changes.specs.inside.Told.{log_lines}
use Rattle.session_changes.specs.declared.lines.CountedLines.{CountedLines}

module _ (name : Option (List ℕ)) (old mid : Logged) (keeps : KeepsHistory old mid) where
  pub same_refusal : (r : Refusal) → ((ps : List Signature) → base_of (unfolded ps mid) ≡ Err r) → (ps : List Signature)
      → base_of (unfolded ps old) ≡ Err r
  same_refusal r h ps = ap base_of (sym (keeps.same ps)) ∙ h ps

  -- the lines follow their number
  pub told_changes : (a b : CountedLines) (out new : List ℕ) → a.text.items ≡ [] → a.count ≡ 0
      → ((ps : List Signature) → (base : Contents) × (base_of (unfolded ps mid) ≡ Ok base)
      × AddsLines (changes_of name base (contents mid.store)) a b)
      → new ≡ out ++ (codes "changes " ++ decimal b.count ++ 10 ∷ b.text.items)
      → (ps : List Signature) → TellsChanges name (unfolded ps old) out new
  told_changes a b out new begun none adds is ps =
      let x = adds ps in
      let lines = changes_of name x.0 (contents mid.store) in
      let text : b.text.items ≡ flat_map (λ l. l) lines = x.2.text ∙ ap (λ l. l ++ flat_map (λ l. l) lines) begun in
      let count : b.count ≡ length lines = omega (arith, x.2.count, none) in
      let same : contents mid.store ≡ contents old.store = ap (λ (h : History). h.now) (keeps.same ps) in
      record {
        base = x.0;
        is = ap base_of (sym (keeps.same ps)) ∙ x.1;
        text =
            is ∙ (λ k. out ++ (codes "changes " ++ decimal (count k) ++ 10 ∷ text k))
            ∙ ap (λ c. out ++ diff_text (changes_of name x.0 c)) same;
      }

-- ---- what an open group and the last step give

pub outside_group : (o : Option OpenGroup) (l : List Entry) → None ≡ option_map (λ g. l) o → o ≡ None
outside_group None l e = refl
outside_group (Some g) l e = absurd (cc)

pub adds_changes : (name : Option (List ℕ)) (t : Logged) (log : List Entry) (s : Store) (a b : CountedLines)
    → s ≡ t.store → LeadsToBase log t → AddsLines (log_lines name log s) a b
    → (ps : List Signature)
    → (base : Contents) × (base_of (unfolded ps t) ≡ Ok base) × AddsLines (changes_of name base (contents t.store)) a b
adds_changes name t log s a b same leads adds ps =
    (contents (before log t.store), leads.base ps, subst (λ x. AddsLines (log_lines name log x) a b) same adds)
