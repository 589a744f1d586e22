-- A store that holds an account answers every list of calls as the account does, and holds the account after them: one lemma a call.
use mathlib.Core.Path.{◌≡◌, refl, ap}
use mathlib.Core.List.{List, [], ◌∷◌}
use mathlib.Core.Bool.{false}
use mathlib.Core.Option.{Option, none, some}
use Prim.Native.Nat.{ℕ}
use Rattle.definition.specs.declared.Answer.{Answer}
use Rattle.definition.specs.declared.OperationType.{OperationType}
use Rattle.definition.specs.Account.{Account}
use Rattle.definition.specs.Refusals.{opening_refusal, filing_refusal}
use Rattle.definition.specs.Store.{account_in, too_short, store_refusal}
use Rattle.definition.specs.Outcomes.{unchanged, accepted, open_store, add_ast, turned, adopt_orphan_extensions, ignore_builtin_redefinitions, build}
use Rattle.definition.specs.Outcomes.{check_rows, root_operation, type_field, is_subtype, iter_origins, extensions, implementers_map}
use Rattle.definition.specs.Calls.{Call, opening, filing, adopting, ignoring, building, checking, root_asked, field_asked, subtype_asked, origins_asked}
use Rattle.definition.specs.Calls.{extensions_asked, implementers_asked, parsing, Reply, answered, built, named, fielded, subtyped, listed, opened_account}
use Rattle.definition.specs.Calls.{joined}
use Rattle.definition.specs.Calls.{adopting_from, ignoring_from, or_refused, step, run_account, Store, store, leaves, step_store, run_store, account_after}
use Rattle.definition.specs.Runs.{store_after}
use Rattle.definition.proofs.StoreHolds.{LaidOut, account_held, refusal_held, long_held, adopting_held, ignoring_held, opening_held, filing_held}
use Rattle.definition.proofs.RootNames.{root_part}

abbrev pub HoldsIn : Store → Account → Type 0
HoldsIn s a = LaidOut s.text s.words a.documents a.adopt a.ignore

-- After a call the two replies are the same, and the store holds the account.
pub record Same (s : Store × Reply) (t : Account × Reply) : Type 0 where
  pub reply : s.1 ≡ t.1
  pub holds : HoldsIn s.0 t.0

module _ (s : Store) (a : Account) (h : HoldsIn s a) where
  pub sound : store_refusal s.text s.words ≡ 0
  sound = refusal_held s.text s.words a.documents a.adopt a.ignore h

  pub same : account_in s.text s.words ≡ a
  same = account_held s.text s.words a.documents a.adopt a.ignore h

  pub long : too_short s.text s.words ≡ false
  long = long_held s.text s.words a.documents a.adopt a.ignore h

  -- ---- One lemma a call.

  kept_drawing : (rows errors : List ℕ) → Same (step_store s (building rows errors)) (step a (building rows errors))
  unfolding step_store step
  kept_drawing rows errors = record { reply = ap built (unfold build in rw (sound, same)); holds = h }

  kept_checking : (rows : List ℕ) → Same (step_store s (checking rows)) (step a (checking rows))
  unfolding step_store step
  kept_checking rows = record { reply = ap answered (unfold check_rows in rw (sound, same)); holds = h }

  kept_root : (rows : List ℕ) (op : OperationType) → Same (step_store s (root_asked rows op)) (step a (root_asked rows op))
  unfolding step_store step root_operation
  kept_root rows op = record {
    reply = ap named (rw (sound, same) (root_part s.text h.after a rows op h.text_laid h.admitted.faultless));
    holds = h;
  }

  kept_field : (rows type field : List ℕ) → Same (step_store s (field_asked rows type field)) (step a (field_asked rows type field))
  unfolding step_store step
  kept_field rows type field = record { reply = ap fielded (unfold type_field in rw (sound, same)); holds = h }

  kept_subtype : (rows general other : List ℕ) → Same (step_store s (subtype_asked rows general other)) (step a (subtype_asked rows general other))
  unfolding step_store step
  kept_subtype rows general other = record { reply = ap subtyped (unfold is_subtype in rw (sound, same)); holds = h }

  kept_origins : (rows lent : List ℕ) → Same (step_store s (origins_asked rows lent)) (step a (origins_asked rows lent))
  unfolding step_store step
  kept_origins rows lent = record { reply = ap listed (unfold iter_origins in rw (sound, same)); holds = h }

  kept_extensions : (rows lent : List ℕ) → Same (step_store s (extensions_asked rows lent)) (step a (extensions_asked rows lent))
  unfolding step_store step
  kept_extensions rows lent = record { reply = ap listed (unfold extensions in rw (sound, same)); holds = h }

  kept_implementers : (rows lent : List ℕ) → Same (step_store s (implementers_asked rows lent)) (step a (implementers_asked rows lent))
  unfolding step_store step
  kept_implementers rows lent = record { reply = ap listed (unfold implementers_map in rw (sound, same)); holds = h }

  kept_parsing : (text lent : List ℕ) → Same (step_store s (parsing text lent)) (step a (parsing text lent))
  unfolding step_store step
  kept_parsing text lent = record { reply = refl; holds = h }

  kept_adopting : Same (step_store s adopting) (step a adopting)
  unfolding step_store step leaves store adopt_orphan_extensions turned or_refused accepted adopting_from
  kept_adopting = rw sound (record { reply = refl; holds = adopting_held s.text s.words a.documents a.adopt a.ignore h })

  kept_ignoring : Same (step_store s ignoring) (step a ignoring)
  unfolding step_store step leaves store ignore_builtin_redefinitions turned or_refused accepted ignoring_from
  kept_ignoring = rw sound (record { reply = refl; holds = ignoring_held s.text s.words a.documents a.adopt a.ignore h })

  kept_opening : (lent ws : List ℕ) → Same (step_store s (opening lent ws)) (step a (opening lent ws))
  unfolding step_store step leaves store open_store or_refused unchanged accepted opened_account
  kept_opening lent ws = go (opening_refusal lent ws) refl
    where
      go : (o : Option Answer) → opening_refusal lent ws ≡ o → Same (step_store s (opening lent ws)) (step a (opening lent ws))
      go none e = rw (long, e) (record { reply = refl; holds = opening_held s.text s.words lent ws long e })
      go (some r) e = rw (long, e) (record { reply = refl; holds = h })

  kept_filing : (lent ws : List ℕ) → Same (step_store s (filing lent ws)) (step a (filing lent ws))
  unfolding step_store step leaves store add_ast or_refused unchanged accepted joined
  kept_filing lent ws = go (filing_refusal a lent ws) refl
    where
      go : (o : Option Answer) → filing_refusal a lent ws ≡ o → Same (step_store s (filing lent ws)) (step a (filing lent ws))
      go none e = rw (sound, same, e) (record { reply = refl; holds = filing_held s.text s.words a lent ws h e })
      go (some r) e = rw (sound, same, e) (record { reply = refl; holds = h })

  pub kept : (c : Call) → Same (step_store s c) (step a c)
  kept (opening lent ws) = kept_opening lent ws
  kept (filing lent ws) = kept_filing lent ws
  kept adopting = kept_adopting
  kept ignoring = kept_ignoring
  kept (building rows errors) = kept_drawing rows errors
  kept (checking rows) = kept_checking rows
  kept (root_asked rows op) = kept_root rows op
  kept (field_asked rows type field) = kept_field rows type field
  kept (subtype_asked rows general other) = kept_subtype rows general other
  kept (origins_asked rows lent) = kept_origins rows lent
  kept (extensions_asked rows lent) = kept_extensions rows lent
  kept (implementers_asked rows lent) = kept_implementers rows lent
  kept (parsing text lent) = kept_parsing text lent

-- ---- All calls.

pub agree : (calls : List Call) (s : Store) (a : Account) → HoldsIn s a → run_store s calls ≡ run_account a calls
unfolding run_store run_account
agree [] s a h = refl
agree (c ∷ cs) s a h =
    let k = kept s a h c in
    let later = agree cs (step_store s c).0 (step a c).0 k.holds in
    λ i. k.reply i ∷ later i

-- The store after a list of calls holds the account after it.
pub holds_after : (calls : List Call) (s : Store) (a : Account) → HoldsIn s a → HoldsIn (store_after s calls) (account_after a calls)
unfolding store_after account_after
holds_after [] s a h = h
holds_after (c ∷ cs) s a h = holds_after cs (step_store s c).0 (step a c).0 (kept s a h c).holds
