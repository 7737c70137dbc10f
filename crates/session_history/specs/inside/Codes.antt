-- How the logic stores histories and steps: as tuples of their fields.
use Rattle.std.specs.Prelude.{ℕ, Bool, List, refl}
use Rattle.std.specs.declared.option.Option.{Option}
use Rattle.std.specs.Coded.{Coded, code_by, coded×, coded_ℕ, coded_bool, coded_list, coded_option}
use Rattle.prim_core.specs.Signature.{Signature}
use Rattle.term_changes.specs.Contents.{Contents}
use Rattle.term_changes.specs.Slots.{Store}
use Rattle.term_changes.specs.Entries.{Entry}
use Rattle.term_changes.specs.inside.Codes.{contents_code, store_code, entry_code}
use Rattle.session_history.specs.History.{HistoryGroup, History}
use Rattle.session_history.specs.Unfolded.{Logged}
use Rattle.session_history.specs.declared.limits.Limits.{Limits}
use Rattle.session_history.specs.declared.timeline.OpenGroup.{OpenGroup}

abbrev pub signature_code : Coded Signature
signature_code =
    code_by (List ℕ × ℕ) (coded× (coded_list coded_ℕ) coded_ℕ) (λ s. (s.name, s.arity))
    (λ p. record { name = p.0; arity = p.1 }) (λ _. refl)

abbrev pub group_code : Coded HistoryGroup
group_code =
    code_by (Contents × Bool) (coded× contents_code coded_bool) (λ g. (g.begun, g.changed))
    (λ p. record { begun = p.0; changed = p.1 }) (λ _. refl)

abbrev pub limits_code : Coded Limits
limits_code =
    code_by (ℕ × (ℕ × ℕ)) (coded× coded_ℕ (coded× coded_ℕ coded_ℕ)) (λ l. (l.max_terms, (l.max_steps, l.max_tokens)))
    (λ p. record { max_terms = p.0; max_steps = p.1.0; max_tokens = p.1.1 }) (λ _. refl)

-- the past and the later contents, the current ones, the primitives, the limits, and the group
abbrev Parts : Type 0
Parts = ((List Contents × List Contents) × Contents) × (List Signature × (Limits × Option HistoryGroup))

abbrev pub history_code : Coded History
history_code =
    code_by Parts
    (coded× (coded× (coded× (coded_list contents_code) (coded_list contents_code)) contents_code)
    (coded× (coded_list signature_code) (coded× limits_code (coded_option group_code))))
    (λ h. (((h.past, h.later), h.now), (h.primitives, (h.limits, h.group))))
    (λ p.
    record { primitives = p.1.0; limits = p.1.1.0; past = p.0.0.0; now = p.0.1; later = p.0.0.1; group = p.1.1.1 })
    (λ _. refl)

abbrev pub open_group_code : Coded OpenGroup
open_group_code = code_by Bool coded_bool (λ g. g.changed) (λ b. record { changed = b }) (λ _. refl)

-- the store, the logs, the position, the group, the current log, and the limits
abbrev LoggedParts : Type 0
LoggedParts = (Store × List (List Entry)) × (ℕ × (Option OpenGroup × (List Entry × Limits)))

abbrev pub logged_code : Coded Logged
logged_code =
    code_by LoggedParts
    (coded× (coded× store_code (coded_list (coded_list entry_code)))
    (coded× coded_ℕ (coded× (coded_option open_group_code) (coded× (coded_list entry_code) limits_code))))
    (λ t. ((t.store, t.logs), (t.position, (t.group, (t.current, t.limits)))))
    (λ p.
    record { store = p.0.0; logs = p.0.1; position = p.1.0; group = p.1.1.0; current = p.1.1.1.0; limits = p.1.1.1.1 })
    (λ _. refl)
