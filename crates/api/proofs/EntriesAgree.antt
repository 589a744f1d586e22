-- Demand 3 of the entries: a call that an entry did is a step over the store, so the replies to a list of them are the account's.
use mathlib.Core.Path.{◌≡◌, refl, sym, ◌∙◌, ap}
use mathlib.Core.List.{List, [], ◌∷◌}
use Rattle.definition.specs.Answers.{answer}
use Rattle.definition.specs.Outcomes.{StoreOutcome}
use Rattle.definition.specs.Calls.{Call, opening, filing, adopting, ignoring, building, checking, root_asked, field_asked, subtype_asked, origins_asked}
use Rattle.definition.specs.Calls.{extensions_asked, implementers_asked, parsing, Reply, Store, store, leaves, step_store, run_store}
use Rattle.definition.specs.Runs.{Start, first_store, Ran}
use Rattle.definition.proofs.Demand3.{runs_agree_lem}
use Rattle.api.specs.Statements.{open_steps, add_ast_steps, adopt_orphan_extensions_steps, ignore_builtin_redefinitions_steps, build_steps}
use Rattle.api.specs.Statements.{check_rows_steps, root_operation_steps, type_field_steps, is_subtype_steps, iter_origins_steps, extensions_steps}
use Rattle.api.specs.Statements.{implementers_map_steps, parse_steps}
use Rattle.api.specs.Entries.{Done, AllDone, EntriesAgree}
use Rattle.api.proofs.LookupOutcomes.{finds_field, tells_subtype}

-- What a call left and replied, each on its own.
both : (s t : Store) (r q : Reply) → t ≡ s → r ≡ q → ◌≡◌ {A = Store × Reply} (t, r) (s, q)
both s t r q e f = λ i. (e i, f i)

-- A call that an entry did is a step over the store.
done_steps : (s : Store) (c : Call) (t : Store) (r : Reply) → Done s c t r → ◌≡◌ {A = Store × Reply} (t, r) (step_store s c)
unfolding store
done_steps s (opening lent cards) t r d =
    both t t r _ refl d.2 ∙ open_steps s.text s.words d.0 t.text t.words lent cards d.1
done_steps s (filing lent cards) t r d =
    both t t r _ refl d.2 ∙ add_ast_steps s.text s.words d.0 t.text t.words lent cards d.1
done_steps s adopting t r d =
    both t t r _ refl d.2 ∙ adopt_orphan_extensions_steps s.text s.words d.0 t.text t.words d.1
done_steps s ignoring t r d =
    both t t r _ refl d.2 ∙ ignore_builtin_redefinitions_steps s.text s.words d.0 t.text t.words d.1
done_steps s (building rows errors) t r d =
    both s t r _ d.3 d.2 ∙ build_steps s.text s.words rows errors d.0.drawing d.0.rows d.0.errors d.1
done_steps s (checking rows) t r d = both s t r _ d.3 d.2 ∙ check_rows_steps s.text s.words rows d.0 d.1
done_steps s (root_asked rows op) t r d = both s t r _ d.3 d.2 ∙ root_operation_steps s.text s.words rows op d.0 d.1
done_steps s (field_asked rows type field) t r d =
    both s t r _ d.3 d.2 ∙ type_field_steps s.text s.words rows type field d.0 d.1
done_steps s (subtype_asked rows general other) t r d =
    both s t r _ d.3 d.2 ∙ is_subtype_steps s.text s.words rows general other d.0 d.1
done_steps s (origins_asked rows list) t r d =
    both s t r _ d.3 d.2 ∙ iter_origins_steps s.text s.words rows list d.0.answer d.0.list d.1
done_steps s (extensions_asked rows list) t r d =
    both s t r _ d.3 d.2 ∙ extensions_steps s.text s.words rows list d.0.answer d.0.list d.1
done_steps s (implementers_asked rows list) t r d =
    both s t r _ d.3 d.2 ∙ implementers_map_steps s.text s.words rows list d.0.answer d.0.list d.1
done_steps s (parsing source cards) t r d =
    both s t r _ d.3 d.2 ∙ parse_steps s.text s.words source cards d.0.answer d.0.list d.1

all_ran : (s : Store) (cs : List Call) (rs : List Reply) → AllDone s cs rs → Ran s cs rs
all_ran s [] [] d = d
all_ran s [] (r ∷ rs) d = d
all_ran s (c ∷ cs) [] d = d
all_ran s (c ∷ cs) (r ∷ rs) d = (d.0, done_steps s c d.0 r d.1, all_ran d.0 cs rs d.2)

pub entries_agree : EntriesAgree
unfolding leaves store
entries_agree s t lent cards d calls replies n = runs_agree_lem b calls replies (from_first (all_ran t calls replies n))
  where
    told : d.0 ≡ answer 0 0
    told = cc d.2

    b : Start
    b = record { text = s.text; words = s.words; lent = lent; cards = cards; accepted = ap (λ (o : StoreOutcome). o.answer) (sym d.1) ∙ told }

    first : t ≡ first_store b
    first = ap (λ (o : StoreOutcome). (leaves o).0) d.1

    from_first : Ran t calls replies → Ran (first_store b) calls replies
    from_first h = rw (← first) h

-- ---- No premise above is empty: whatever the store and the calls, an entry that answers and leaves its outcome did the call.

step_done : (s : Store) (c : Call) → Done s c (step_store s c).0 (step_store s c).1
unfolding step_store leaves store
step_done s (opening lent cards) = (_, refl, refl)
step_done s (filing lent cards) = (_, refl, refl)
step_done s adopting = (_, refl, refl)
step_done s ignoring = (_, refl, refl)
step_done s (building rows errors) = (_, refl, refl, refl)
step_done s (checking rows) = (_, refl, refl, refl)
step_done s (root_asked rows op) = (_, refl, refl, refl)
step_done s (field_asked rows type field) = (_, finds_field _ _ refl, refl, refl)
step_done s (subtype_asked rows general other) = (_, tells_subtype _ _ refl, refl, refl)
step_done s (origins_asked rows list) = (_, refl, refl, refl)
step_done s (extensions_asked rows list) = (_, refl, refl, refl)
step_done s (implementers_asked rows list) = (_, refl, refl, refl)
step_done s (parsing source cards) = (_, refl, refl, refl)

pub run_done : (s : Store) (cs : List Call) → AllDone s cs (run_store s cs)
unfolding run_store
run_done s [] = tt
run_done s (c ∷ cs) = ((step_store s c).0, step_done s c, run_done (step_store s c).0 cs)
