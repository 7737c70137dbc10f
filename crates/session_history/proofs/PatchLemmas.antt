-- A change of several entries that are known: a patch as a step, and a plan in a group.
use Rattle.std.proofs.Common.{◌≡◌, ◌++◌, ◌∷◌, [], List, refl, sym, ap, subst, ◌∙◌}
use Rattle.term_changes.specs.Slots.{Store}
use Rattle.term_changes.specs.Entries.{Entry, before, after, flipped_forward, Fits, FitsForward}
use Rattle.term_changes.specs.Compact.{IsCompact}
use Rattle.term_changes.proofs.EntryLemmas.{store_from_before, flipped_forward_fits}
use Rattle.session_history.specs.inside.Adding.{AddsStep}
use Rattle.session_history.specs.inside.Adding.{AddsEntries}

pub adds_many : (es : List Entry) (s t : Store) (l m : List Entry) → FitsForward es s → t ≡ after es s
    → m ≡ l ++ flipped_forward es s → AddsEntries s l t m
adds_many es s t l m fit store log = record {
  added = flipped_forward es s;
  after = log;
  back = ap (before (flipped_forward es s)) store ∙ store_from_before es s;
  fits = subst (Fits (flipped_forward es s)) (sym store) (flipped_forward_fits es s fit);
}

pub adds_compact : (logs new : List (List Entry)) (step : List Entry) → new ≡ logs ++ step ∷ [] → IsCompact step
    → AddsStep logs step new
adds_compact logs new step all h = record {
  left = step;
  all = all;
  back = λ s. refl;
  fits = λ s h. h;
  compact = h;
}
