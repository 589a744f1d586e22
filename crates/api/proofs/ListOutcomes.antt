-- The lookups that fill a slice: the outcome by the one number that is refused.
use mathlib.Core.Path.{◌≡◌, refl, ◌∙◌}
use mathlib.Core.List.{List}
use mathlib.Core.Bool.{Bool, true, false}
use Prim.Native.Nat.{ℕ}
use lib.Dec.{eqb, ltb}
use lib.ListN.{length}
use Rattle.definition.specs.declared.Answer.{Answer}
use Rattle.definition.specs.Lists.{choose, flat_map, written}
use Rattle.definition.specs.Answers.{answer}
use Rattle.definition.specs.Refusals.{groups_capacity, origins_capacity}
use Rattle.definition.specs.Store.{account_in}
use Rattle.definition.specs.LentRows.{held, lent_rows}
use Rattle.definition.specs.Lookups.{origin_list, extension_list, groups, group_words}
use Rattle.definition.specs.Outcomes.{ListOutcome, unlisted, listed_in, is_short, iter_origins, extensions, implementers_map}
use Rattle.api.specs.LookupRefusal.{lookup_refusal, list_refusal}
use Rattle.api.proofs.LookupOutcomes.{one_number, iter_origins_by, extensions_by, implementers_map_by, outcome_refused, outcome_done}

-- ---- The outcome.

abbrev pub left : Answer → List ℕ → ListOutcome
left a list = record { answer = a; list = list }

-- How an outcome goes by its number.
abbrev pub ByNumber : ℕ → List ℕ → ℕ → List ℕ → ListOutcome → Type 0
ByNumber n lent count ws outcome = outcome ≡ choose (eqb n 0) (listed_in lent count ws) (unlisted lent n)

module _ (text words rows lent : List ℕ) where
  listed : (capacity count : ℕ) (ws : List ℕ) (outcome : ListOutcome) →
      outcome ≡ choose (eqb (lookup_refusal text words rows) 0) (choose (is_short capacity lent) (unlisted lent 7) (listed_in lent count ws))
      (unlisted lent (lookup_refusal text words rows)) →
      ByNumber (list_refusal text words rows capacity (length lent)) lent count ws outcome
  unfolding list_refusal is_short
  listed capacity count ws outcome e =
      e ∙ rw (seven (ltb (length lent) capacity))
      (one_number (lookup_refusal text words rows) (choose (ltb (length lent) capacity) 7 0) (listed_in lent count ws) (unlisted lent))
    where
      seven : (b : Bool) → choose b (unlisted lent 7) (listed_in lent count ws)
          ≡ choose (eqb (choose b 7 0) 0) (listed_in lent count ws) (unlisted lent (choose b 7 0))
      seven true = refl
      seven false = refl

  pub iter_origins_listed : ByNumber (list_refusal text words rows origins_capacity (length lent)) lent (length (origin_list (lent_rows rows)))
      (origin_list (lent_rows rows)) (iter_origins text words rows lent)
  iter_origins_listed = listed origins_capacity _ (origin_list (lent_rows rows)) _ (iter_origins_by text words rows lent)

  pub extensions_listed : ByNumber (list_refusal text words rows origins_capacity (length lent)) lent (length (extension_list (lent_rows rows)))
      (extension_list (lent_rows rows)) (extensions text words rows lent)
  extensions_listed = listed origins_capacity _ (extension_list (lent_rows rows)) _ (extensions_by text words rows lent)

  pub implementers_map_listed :
      ByNumber (list_refusal text words rows groups_capacity (length lent)) lent (length (groups (held (account_in text words).documents) (lent_rows rows)))
      (flat_map group_words (groups (held (account_in text words).documents) (lent_rows rows)))
      (implementers_map text words rows lent)
  implementers_map_listed =
      listed groups_capacity _ (flat_map group_words (groups (held (account_in text words).documents) (lent_rows rows))) _
      (implementers_map_by text words rows lent)

-- Return by return.
module _ (n r : ℕ) (e : r ≡ n) (lent : List ℕ) (count : ℕ) (ws : List ℕ) (outcome : ListOutcome) (by : ByNumber n lent count ws outcome) where
  pub list_refused : (r ≡ 0 → ⊥) → left (answer r 0) lent ≡ outcome
  unfolding unlisted
  list_refused z = outcome_refused n r e _ (unlisted lent) outcome by z

  pub list_done : (k : ℕ) (list : List ℕ) → r ≡ 0 → k ≡ count → list ≡ written lent 0 ws → left (answer 0 k) list ≡ outcome
  unfolding listed_in
  list_done k list z p q = outcome_done n r e _ (unlisted lent) outcome by _ z (rw (p, q))
