-- A name sought among cards that were numbered; it may be that of none of them.
use Rattle.std.specs.Prelude.{◌≡◌, List, Bool, false, ℕ, ◌-◌, ◌≤◌, ◌<◌, length, get_or}
use Rattle.std.specs.declared.cmp.Ordering.TheVariants.{Less}
use Rattle.std.specs.declared.option.Option.{Option}
use Rattle.std.specs.declared.option.Option.TheVariants.{Some, None}
use Rattle.std.specs.Ordering.{nat_cmp, ordering_then, is_lt}
use Rattle.definition.specs.Names.{compare_names, same_name}
use Rattle.numbering.specs.declared.Numbering.{Numbering}
use Rattle.numbering.specs.declared.Numbering.TheVariants.{ByTable, ByOrder}
use Rattle.numbering.specs.Numbers.{representative}
use Rattle.numbering.specs.Table.{most_probes, Held}
use Rattle.numbering.specs.Order.{CardsSorted}

-- What the table holds once all cards are numbered, by the way in which that was done.
abbrev pub TableHolds : (ℕ → List ℕ) → ℕ → List ℕ → List ℕ → Numbering → Type 0
TableHolds named n hashes table ByTable = Held named (length table - most_probes) n table
TableHolds named n hashes table ByOrder = CardsSorted named hashes n table

-- What is found among n cards: the first card that has the name, or that none has it.
abbrev pub FoundAs : (ℕ → List ℕ) → ℕ → List ℕ → Option ℕ → Type 0
FoundAs named n name (Some i) = (i < n) × (named i ≡ name) × (representative named i ≡ i)
FoundAs named n name None = (i : ℕ) → i < n → same_name name (named i) ≡ false

-- In the order, the card stands before all cards of the name.
pub data Earlier (named : ℕ → List ℕ) (hashes name : List ℕ) (hash card : ℕ) : Type 0 where
  by_hash : get_or hashes card 0 < hash → Earlier named hashes name hash card
  by_name : get_or hashes card 0 ≡ hash → compare_names (named card) name ≡ Less → Earlier named hashes name hash card

-- The test of that.
abbrev pub is_earlier : (ℕ → List ℕ) → List ℕ → List ℕ → ℕ → ℕ → Bool
is_earlier named hashes name hash card = is_lt (ordering_then (nat_cmp (get_or hashes card 0) hash) (compare_names (named card) name))

-- The place in the order at which the cards of the name begin, or would begin.
pub record Begins (named : ℕ → List ℕ) (n : ℕ) (hashes order name : List ℕ) (hash place : ℕ) : Type 0 where
  pub place_most : place ≤ n
  pub before_earlier : 0 < place → Earlier named hashes name hash (get_or order (place - 1) 0)
  pub here_not : place < n → Earlier named hashes name hash (get_or order place 0) → ⊥
