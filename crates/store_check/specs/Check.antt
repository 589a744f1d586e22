-- What the parts of a store's check ask and answer.
use Rattle.std.specs.Prelude.{◌≡◌, List, Bool, true, ◌&&◌, ℕ, ◌≤◌, eqb, leb, length, Result, Ok}
use Rattle.definition.specs.declared.refusal.Refusal.{Refusal}
use Rattle.std.proofs.Math.Option.{some}
use Rattle.definition.specs.Store.{words_capacity, DocumentRow, document_rows, text_used_of, cards_used_of, ignore_word, counts_sound, rows_sound}
use Rattle.definition.specs.Numbers.{told_number}
use Rattle.definition.specs.Store.{account_in, decode, store_refusal}

-- The row begins at `at`, and its ignore switch is not below `ignored`.
unfoldable pub row_follows : DocumentRow → ℕ → ℕ → Bool
row_follows r at ignored = eqb r.text_at at && leb ignored r.ignored

-- The rows come to `at` bytes and as many cards as are used, and the ignore switch is not below `ignored`, that of the last row.
unfoldable pub sums_sound : List ℕ → ℕ → ℕ → ℕ → Bool
sums_sound words at cards ignored = eqb at (text_used_of words) && eqb cards (cards_used_of words) && leb ignored (ignore_word words)

-- What the checks of cards lean on: words of the stated length, with sound counts and rows.
pub record SoundRows (words : List ℕ) : Type 0 where
  pub long : words_capacity ≤ length words
  pub counts : counts_sound words ≡ true
  pub rows : rows_sound words (document_rows words) ≡ true

-- What a check of a store tells: the refusal, and where there is none, that the store holds an account.
pub record Checked (r : Result Unit Refusal) (text words : List ℕ) : Type 0 where
  pub number : told_number r ≡ store_refusal text words
  pub decoded : {u : _} → r ≡ Ok u → decode text words ≡ some (account_in text words)
