use Rattle.std.proofs.Common.{◌≡◌, ℕ, List, [], ◌∷◌, ◌++◌, append_assoc}
use Rattle.aterm_text.proofs.PrintLemmas.{extends-append}
use Rattle.session_changes.proofs.lines.append_parts.Goals as goal

-- one part after the other
line_text : (t0 t1 t2 t3 t4 t5 t6 t7 name path old arrow new : List ℕ) → t1 ≡ t0 ++ name → t2 ≡ t1 ++ path
    → t3 ≡ t2 ++ 32 ∷ [] → t4 ≡ t3 ++ old → t5 ≡ t4 ++ arrow → t6 ≡ t5 ++ new → t7 ≡ t6 ++ 10 ∷ []
    → t7 ≡ t0 ++ (name ++ path ++ 32 ∷ old ++ arrow ++ new ++ 10 ∷ [])
line_text t0 t1 t2 t3 t4 t5 t6 t7 name path old arrow new a b c d e f g = rw (g, f, e, d, c, b, a) (simp append_assoc)

pub returns-clause-ok : goal.returns-clause-ok
returns-clause-ok c =
    line_text _ _ _ _ _ _ _ _ _ _ _ _ _ c.in_ok-extend_from_slice.ensures.items c.in_ok-append_path.ensures.ok
    c.in_ok-push.ensures.items c.in_ok-append_side.ensures.ok c.in_ok-extend_from_slice-2.ensures.items
    c.in_ok-append_side-2.ensures.ok c.in_ok-push-2.ensures.items

pub returns-clause-err : goal.returns-clause-err
returns-clause-err c = extends-append _ _ _ (returns-clause-ok c)
