-- What an act leaves of a session, and its answer.
use Rattle.std.proofs.Common.{◌≡◌, ◌⊎◌, ℕ, Bool, false, List, Result, Ok, Err, IfErr, inl, inr, sym, ap, subst, ◌∙◌}
use Rattle.std.specs.Prelude.{IsErrAnd}
use Rattle.std.specs.Bool.{OnFalse}
use Rattle.prim_core.specs.Signature.{Signature}
use Rattle.term_changes.specs.Slots.{Slots, named, contents}
use Rattle.session_history.specs.History.{History, HasSoundContents}
use Rattle.session_history.specs.Acts.{Act, ComesTo, Performs, PerformsSurely}
use Rattle.session_history.specs.Differences.{base_of}
use Rattle.session_modules.specs.Modules.{Texts}
use Rattle.session_modules.specs.Kept.{IsKept}
use Rattle.session_history.specs.Moving.{PerformsOn, PerformsBy, PerformsSurelyOn}
use Rattle.session_history.specs.Unfolded.{Logged, unfolded}
use Rattle.session_modules.specs.declared.cache.ModuleCache.{ModuleCache}
use Rattle.session_modules.specs.declared.refusal.Refusal.{Refusal}
use Rattle.session_modules.specs.declared.refusal.Refusal.TheVariants.{Memory}
use Rattle.session_history.proofs.SoundLemmas.{StandsOn, LeavesModules, step_sound, act_sound, act_leaves}
use Rattle.session_history.proofs.ActLemmas.{kept_still}
use Rattle.session_core.specs.inside.Held.{IsSession}

module _ {X : Type 0} (act : Act) (r : Result X Refusal) (ps : List Signature) (old new : Logged)
    (k : ModuleCache) where
  pub keeps : PerformsOn act old new r → StandsOn act → LeavesModules act → IsSession ps old k → IsSession ps new k
  keeps p stands leaves s = record {
    sound = act_sound act r (unfolded ps old) (unfolded ps new) stands (p.at ps).ok (p.at ps).err s.sound;
    kept = kept_still ps old new k
        (act_leaves act r (unfolded ps old) (unfolded ps new) leaves (p.at ps).ok (p.at ps).err) s.kept;
  }

  pub keeps_surely : PerformsSurelyOn act old new r → StandsOn act → LeavesModules act → IsSession ps old k
      → IsSession ps new k
  keeps_surely p stands leaves s = record {
    sound = act_sound act r (unfolded ps old) (unfolded ps new) stands (p.at ps).ok (p.at ps).err s.sound;
    kept = kept_still ps old new k
        (act_leaves act r (unfolded ps old) (unfolded ps new) leaves (p.at ps).ok (p.at ps).err) s.kept;
  }

  -- the modules are kept anew
  pub keeps_with : (m : ModuleCache) → PerformsBy ps act old new r → StandsOn act
      → IsKept ps (contents new.store).modules m → IsSession ps old k → IsSession ps new m
  keeps_with m p stands kept s = record {
    sound = act_sound act r (unfolded ps old) (unfolded ps new) stands p.is.ok p.is.err s.sound;
    kept = kept;
  }

module _ {X : Type 0} (act : Act) (ps : List Signature) (old new : Logged) (k : ModuleCache) where
  pub keeps_refused : (refusal : Refusal) → PerformsSurelyOn {X = X} act old new (Err refusal) → IsSession ps old k
      → IsSession ps new k
  keeps_refused refusal p s = let same = (p.at ps).err in record {
    sound = subst HasSoundContents (sym same) s.sound;
    kept = kept_still ps old new k (ap (λ (h : History). h.now.modules) same) s.kept;
  }

  -- that texts may have changed is noted
  pub keeps_noted : (x : X) (m : ModuleCache) → PerformsSurelyOn act old new (Ok x) → StandsOn act
      → ((ps : List Signature) (old now : Texts) → IsKept ps old k → IsKept ps now m)
      → IsSession ps old k → IsSession ps new m
  keeps_noted x m p stands notes s = record {
    sound = step_sound act (unfolded ps old) (unfolded ps new) stands s.sound (p.at ps).ok;
    kept = notes ps (contents old.store).modules (contents new.store).modules s.kept;
  }

  -- no text has changed
  pub keeps_texts : (x : X) (touched : Bool) → PerformsSurelyOn act old new (Ok x) → StandsOn act
      → touched ≡ false → OnFalse touched (new.store.modules ≡ old.store.modules)
      → IsSession ps old k → IsSession ps new k
  keeps_texts x touched p stands none same s = record {
    sound = step_sound act (unfolded ps old) (unfolded ps new) stands s.sound (p.at ps).ok;
    kept = subst (λ (ms : Slots (List ℕ)). IsKept ps (named ms) k)
        (sym (subst (λ b. OnFalse b (new.store.modules ≡ old.store.modules)) none same)) s.kept;
  }

-- what changes nothing
module _ (ps : List Signature) (old new : Logged) (k : ModuleCache) (same : unfolded ps new ≡ unfolded ps old) where
  pub keeps_same : IsSession ps old k → IsSession ps new k
  keeps_same s = record {
    sound = subst HasSoundContents (sym same) s.sound;
    kept = kept_still ps old new k (ap (λ (h : History). h.now.modules) same) s.kept;
  }

-- ---- answers, where the session is this history

module _ {X : Type 0} (act : Act) (ps : List Signature) (old new : Logged) (h : History)
    (is : unfolded ps old ≡ h) where
  pub performs : (r : Result X Refusal) → PerformsOn act old new r → Performs act h (unfolded ps new) r
  performs r p = subst (λ h. Performs act h (unfolded ps new) r) is (p.at ps)

  pub performs_by : (r : Result X Refusal) → PerformsBy ps act old new r → Performs act h (unfolded ps new) r
  performs_by r p = subst (λ h. Performs act h (unfolded ps new) r) is p.is

  pub performs_surely : (r : Result X Refusal) → PerformsSurelyOn act old new r
      → PerformsSurely act h (unfolded ps new) r
  performs_surely r p = subst (λ h. PerformsSurely act h (unfolded ps new) r) is (p.at ps)

  -- the same refusal, at a `?`
  pub performs_passed : {Y : Type 0} (r : Result Y Refusal) (refusal : Refusal) → IsErrAnd r
      (λ e. e ≡ refusal) → PerformsSurelyOn {X = X} act old new (Err refusal) → PerformsSurely act h (unfolded ps new) r
  performs_passed (Ok y) refusal same p = absurd same
  performs_passed (Err e) refusal same p =
      let first = performs_surely (Err refusal) p in record {
        ok = tt;
        refused = subst (λ (e : Refusal). ComesTo act h (Err e)) (sym same) first.refused;
        err = first.err;
      }

-- why the last step isn't told
pub untold : {X : Type 0} (r : Result X Refusal) (ps : List Signature) (t : Logged) (h : History) → unfolded ps t ≡ h
    → IfErr r (λ e. (e ≡ Memory) ⊎ ((ps : List Signature) → base_of (unfolded ps t) ≡ Err e))
    → IfErr r (λ e. (e ≡ Memory) ⊎ (base_of h ≡ Err e))
untold (Ok x) ps t h is p = tt
untold (Err e) ps t h is (inl memory) = inl memory
untold (Err e) ps t h is (inr none) = inr (ap base_of (sym is) ∙ none ps)
