-- A list that grows in a lent slice.
use Rattle.std.specs.Prelude.{◌≡◌, List, ℕ, ◌+◌, length, take}
use Rattle.definition.specs.Lists.{written}
use Rattle.word_list.specs.declared.WordList.{WordList}

abbrev pub listed_in : WordList → List ℕ
listed_in l = take l.len l.words.now

-- Words were added at the list's end: it lies in the same slice, of which all else stayed.
pub record Appends (old new : WordList) (xs : List ℕ) : Type 0 where
  pub same_slice : new.words.ghost_name ≡ old.words.ghost_name
  pub grown : new.len ≡ old.len + length xs
  pub words : new.words.now ≡ written old.words.now old.len xs
