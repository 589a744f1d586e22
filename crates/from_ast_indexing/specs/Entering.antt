-- The first cards of names, told by the cards' numbers; `same` says whether two cards have one name.
use Rattle.std.specs.Prelude.{◌≡◌, List, [], ◌∷◌, ◌++◌, map, Bool, ℕ, ◌%◌, ◌≤◌, ◌<◌, length, take, get_or}
use Rattle.std.specs.Prelude.{Option as Entry, Some, None}
use Rattle.std.proofs.Math.Option.{Option, none, some}
use Rattle.definition.specs.Lists.{found, find}
use Rattle.definition.specs.Answers.{absent}
use Rattle.definition.specs.Store.{cards_used_of}
use Rattle.from_ast_index.specs.Index.{card_hash}
use Rattle.from_ast_indexing.specs.declared.entry.FirstCards.{FirstCards}
use Rattle.from_ast_indexing.specs.declared.entry.KnownCards.{KnownCards}

-- What a search finds, as the code answers it.
abbrev pub entry_of : Option ℕ → Entry ℕ
entry_of (some c) = Some c
entry_of none = None

-- The first card that has the name of c, or `-`.
unfoldable pub first_card : (ℕ → ℕ → Bool) → ℕ → List ℕ → ℕ
first_card same c cards = found (find (same c) cards) (λ d. d) absent

-- The first cards of each name after c comes to them, and the first one of its name then.
unfoldable pub entered_in : (ℕ → ℕ → Bool) → ℕ → List ℕ → List ℕ
entered_in same c cards = found (find (same c) cards) (λ d. cards) (cards ++ (c ∷ []))

unfoldable pub first_entered : (ℕ → ℕ → Bool) → ℕ → List ℕ → ℕ
first_entered same c cards = found (find (same c) cards) (λ d. d) c

-- Where the search for a hash may begin: at or before the first place that has it.
pub record Hinted (hashes buckets : List ℕ) : Type 0 where
  pub slots : 0 < length buckets
  pub hinted : (j : ℕ) → j < length hashes → get_or buckets (get_or hashes j 0 % length buckets) 0 ≤ j

-- What a search asks: each card has its hash beside it, and no bucket has the search begin too late.
pub record KnownAre (text words : List ℕ) (k : KnownCards) : Type 0 where
  pub hashes_are : k.hashes.now ≡ map (card_hash text words) k.cards.now
  pub hinted : Hinted k.hashes.now k.buckets.now

-- The cards, and what stands beside them.
abbrev pub cards_of : FirstCards → List ℕ
cards_of f = take f.len f.cards.now

abbrev pub hashes_of : FirstCards → List ℕ
hashes_of f = take f.len f.hashes.now

-- Each card has its hash beside it, and the arrays have room for all stored cards.
pub record FirstsAre (text words : List ℕ) (f : FirstCards) : Type 0 where
  pub hashes_are : hashes_of f ≡ map (card_hash text words) (cards_of f)
  pub hinted : Hinted (hashes_of f) f.buckets.now
  pub len_most : f.len ≤ cards_used_of words
  pub cards_room : cards_used_of words ≤ length f.cards.now
  pub hashes_room : cards_used_of words ≤ length f.hashes.now

-- What was lent stays lent, whatever was written there.
pub record SameSlices (old new : FirstCards) : Type 0 where
  pub same_cards : new.cards.ghost_name ≡ old.cards.ghost_name
  pub same_hashes : new.hashes.ghost_name ≡ old.hashes.ghost_name
  pub same_buckets : new.buckets.ghost_name ≡ old.buckets.ghost_name
