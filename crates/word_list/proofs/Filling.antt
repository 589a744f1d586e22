-- A walk that fills a list: what was added since it began, and what is left to add.
use mathlib.Core.Path.{◌≡◌, refl, sym, ◌∙◌, ap}
use mathlib.Core.List.{List, [], ◌∷◌, ◌++◌, append_assoc, append-nil}
use Prim.Native.Nat.{ℕ, ◌+◌, ◌≤◌, ◌<◌}
use native.Mathlib.Nat.{add-zero}
use native.Mathlib.Omega.{arith}
use lib.ListN.{length, length-append, set, take}
use lib.Seq.{paste, length-paste, take-length}
use Rattle.std.proofs.lemmas.List.Edits.{paste-paste, paste_none, paste_more, take-paste}
use Rattle.definition.specs.Lists.{written}
use Rattle.word_list.specs.declared.WordList.{WordList}
use Rattle.word_list.specs.Listed.{listed_in, Appends}

-- To be added is `whole`, of which `rest` is left.
pub record Filling (begun list : WordList) (rest whole : List ℕ) : Type 0 where
  pub done : List ℕ
  pub appends : Appends begun list done
  pub same : done ++ rest ≡ whole
  pub room : begun.len + length whole ≤ length begun.words.now

appends_none : (l : WordList) → Appends l l []
unfolding written
appends_none l = record { same_slice = refl; grown = omega arith; words = paste_none l.words.now l.len [] }

pub filling_start : (l : WordList) (whole : List ℕ) → l.len + length whole ≤ length l.words.now → Filling l l whole whole
filling_start l whole h = record { done = []; appends = appends_none l; same = refl; room = h }

module _ (begun list : WordList) (rest whole : List ℕ) (f : Filling begun list rest whole) where
  added : length f.done + length rest ≡ length whole
  added = sym (length-append f.done rest) ∙ ap length f.same

  kept : length list.words.now ≡ length begun.words.now
  unfolding written
  kept = ap length f.appends.words ∙ length-paste begun.words.now begun.len f.done (length f.done) (let a = added in let h = f.room in omega arith) (omega arith)

  -- There is room for what is left.
  pub filling_capacity : list.len + length rest ≤ length list.words.now
  filling_capacity = let h = f.room in let a = added in let g = f.appends.grown in let k = kept in omega arith

  -- The next words were added.
  pub filling_next : (xs more : List ℕ) → rest ≡ xs ++ more → (list' : WordList) → Appends list list' xs → Filling begun list' more whole
  unfolding written
  filling_next xs more e list' a =
      let begins : begun.len ≤ length begun.words.now = (let d = added in let h = f.room in omega arith) in
      record {
        done = f.done ++ xs;
        appends = record {
          same_slice = a.same_slice ∙ f.appends.same_slice;
          grown = (let g = f.appends.grown in let b = a.grown in let n = length-append f.done xs in omega arith);
          words =
              rw (f.appends.words, f.appends.grown) at a.words
              ∙ paste-paste begun.words.now begun.len f.done xs (length f.done) (length xs) refl refl begins
              ∙ ap (paste begun.words.now begun.len (f.done ++ xs)) (sym (length-append f.done xs));
        };
        same = append_assoc f.done xs more ∙ ap (λ (l : List ℕ). f.done ++ l) (sym e) ∙ f.same;
        room = f.room;
      }

  pub filling_done : rest ≡ [] → Appends begun list whole
  filling_done e = rw (sym (sym (append-nil f.done) ∙ ap (λ (l : List ℕ). f.done ++ l) (sym e) ∙ f.same)) f.appends

-- The list from its first word on.
pub listed_after : (old new : WordList) (xs : List ℕ) → Appends old new xs → old.len ≤ length old.words.now → listed_in new ≡ listed_in old ++ xs
unfolding written
listed_after old new xs a h =
    rw (a.words, a.grown) (take-paste old.words.now old.len xs (length xs) h (omega arith) ∙ ap (λ (l : List ℕ). take old.len old.words.now ++ l) (take-length xs))

-- What is left may be said in other words.
pub filling_same : (begun list : WordList) (rest rest' whole : List ℕ) → Filling begun list rest whole → rest ≡ rest' → Filling begun list rest' whole
filling_same begun list rest rest' whole f e = rw e at f

-- One word.
pub word_written : (ws : List ℕ) (at x : ℕ) → at < length ws → set ws at x ≡ written ws at (x ∷ [])
unfolding written
word_written ws at x h =
    ap (λ (l : List ℕ). set l at x) (paste_none ws at (x ∷ []))
    ∙ ap (λ (i : ℕ). set (paste ws at (x ∷ []) 0) i x) (sym (add-zero at))
    ∙ paste_more ws at (x ∷ []) 0 0 (omega arith) (omega arith)
