-- The hashes of stored cards.
use mathlib.Core.Path.{◌≡◌, refl, sym, ◌∙◌, ap}
use mathlib.Core.List.{List}
use mathlib.Core.Bool.{false}
use Prim.Native.Nat.{ℕ, ◌≤◌, ◌<◌}
use borrow.Author.Tests.{lt-ltb, le-ltb}
use lib.ListN.{length, get_or}
use lib.Seq.{get_or-take}
use Rattle.definition.specs.Store.{cards_used_of}
use Rattle.store_reader.specs.Stored.{stored_parts, card_at}
use Rattle.store_reader.proofs.Words.{length_stored, stored_at}
use Rattle.from_ast_index.specs.Index.{card_hash, Hashed, same_cards, same_stored, part_hash}
use Rattle.from_ast_index.proofs.Lists.{get_d_picture}
use Rattle.name.proofs.HashLaws.{hashes_differ}

-- What `same_cards` reads.
module _ (text words hashes : List ℕ) (p : Hashed text words hashes) where
  pub hash_at : (a : ℕ) → a < cards_used_of words → get_or hashes a 0 ≡ card_hash text words a
  unfolding part_hash card_hash
  hash_at a h =
      let l : length (stored_parts text words) ≡ cards_used_of words = length_stored text words in
      sym (get_or-take (cards_used_of words) hashes a 0 h)
      ∙ ap (λ (xs : List ℕ). get_or xs a 0) p.hashes_are
      ∙ get_d_picture part_hash (stored_parts text words) a (card_at text words a) (stored_at text words a h)
      ∙ card_hash_lem
    where
      card_hash_lem : part_hash (card_at text words a) ≡ card_hash text words a
      card_hash_lem = refl

  pub cards_differ : (a b : ℕ) → a < cards_used_of words → b < cards_used_of words → (get_or hashes a 0 ≡ get_or hashes b 0 → ⊥) → same_cards text words a b ≡ false
  unfolding same_cards card_hash
  cards_differ a b h k d = hashes_differ _ _ (λ e. d (hash_at a h ∙ e ∙ sym (hash_at b k)))

-- Two numbers that may be those of stored cards.
module _ (text words : List ℕ) (a b : ℕ) where
  pub stored_not_first : cards_used_of words ≤ a → same_stored text words a b ≡ false
  unfolding same_stored
  stored_not_first h = rw (le-ltb a (cards_used_of words) h)

  pub stored_not_second : a < cards_used_of words → cards_used_of words ≤ b → same_stored text words a b ≡ false
  unfolding same_stored
  stored_not_second h k = rw (lt-ltb a (cards_used_of words) h, le-ltb b (cards_used_of words) k)

  pub stored_both : a < cards_used_of words → b < cards_used_of words → same_stored text words a b ≡ same_cards text words a b
  unfolding same_stored
  stored_both h k = rw (lt-ltb a (cards_used_of words) h, lt-ltb b (cards_used_of words) k)
