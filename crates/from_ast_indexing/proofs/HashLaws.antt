-- A turn of the walk that makes all hashes.
use mathlib.Core.Path.{◌≡◌, ap, sym, ◌∙◌}
use mathlib.Core.List.{List, [], ◌∷◌, ◌++◌, map}
use Prim.Native.Nat.{ℕ, ◌+◌, ◌≤◌, ◌<◌}
use native.Mathlib.Numerals.{add-one}
use lib.ListN.{length, get_or, take, set, length-map}
use lib.Seq.{take-suc, take-suc-set, take_all}
use native.Mathlib.Omega.{arith}
use Rattle.definition.specs.Refusals.{card_capacity}
use Rattle.definition.specs.Store.{cards_used_of, words_capacity}
use Rattle.store_reader.specs.Stored.{stored_parts, card_at, card_name}
use Rattle.store_reader.proofs.Words.{length_stored, stored_at}
use Rattle.name.specs.Hashes.{hash_of}
use Rattle.from_ast_index.specs.Index.{Hashed, part_hash}
use Rattle.from_ast_index.proofs.Lists.{get_d_picture}

named_hash : (text words : List ℕ) (i : ℕ) → i < cards_used_of words → get_or (map part_hash (stored_parts text words)) i 0 ≡ hash_of (card_name text words i)
unfolding part_hash
named_hash text words i h = get_d_picture part_hash (stored_parts text words) i (card_at text words i) (stored_at text words i h)

length_hashes : (text words : List ℕ) → length (map part_hash (stored_parts text words)) ≡ cards_used_of words
length_hashes text words = length-map (stored_parts text words) part_hash ∙ length_stored text words

module _ (text words hashes : List ℕ) (i : ℕ) (same : take i hashes ≡ take i (map part_hash (stored_parts text words))) where
  pub hash_turned : (v : ℕ) → i < cards_used_of words → i < length hashes → v ≡ hash_of (card_name text words i) →
      take (i + 1) (set hashes i v) ≡ take (i + 1) (map part_hash (stored_parts text words))
  hash_turned v h capacity e =
      let l : i < length (map part_hash (stored_parts text words)) = omega (arith, length_hashes text words) in
      (rw add-one (take-suc-set hashes i v capacity))
      ∙ ap (λ (xs : List ℕ). xs ++ (v ∷ [])) same
      ∙ ap (λ (x : ℕ). take i (map part_hash (stored_parts text words)) ++ (x ∷ [])) (e ∙ sym (named_hash text words i h))
      ∙ (rw add-one (sym (take-suc (map part_hash (stored_parts text words)) i 0 l)))

  pub hashes_made : i ≡ cards_used_of words → words_capacity ≤ length words → cards_used_of words ≤ card_capacity → cards_used_of words ≤ length hashes →
      Hashed text words hashes
  hashes_made e w n l = record {
    hashes_are =
        ap (λ (k : ℕ). take k hashes) (sym e) ∙ same
        ∙ take_all i (map part_hash (stored_parts text words)) (omega (arith, length_hashes text words));
    hashes_length = l;
    cards_most = n;
    words_length = w;
  }
