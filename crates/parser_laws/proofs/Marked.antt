-- Where an item's mark stands in what a text comes by, a piece begins that derives the item's part of the grammar.
use mathlib.Core.Path.{◌≡◌, refl, sym, ap, ◌∙◌, subst}
use mathlib.Core.List.{List, [], ◌∷◌, ◌++◌, append-nil}
use mathlib.Core.Bool.{Bool, true, false, not}
use Prim.Native.Nat.{ℕ}
use native.Mathlib.Omega.{arith}
use Rattle.definition.specs.Lists.{Among}
use Rattle.definition.specs.Grammar.{Mark, Symbol, one, part, mark, Part, Document, rule}
use Rattle.definition.specs.Derivation.{Seen, token, marked, Derives, marks, expands}
use Rattle.parser_laws.proofs.Tests.{clash, both, all_among}
use Rattle.parser_laws.proofs.Facts.{is_start, clean, tidy}
use Rattle.parser_laws.proofs.Sound.{all_tidy}
use Rattle.parser_laws.proofs.Pieces.{Long, l_nothing, l_reads, l_marks, l_expands, measured, part_at}

-- The item that begins with the mark m, before `post`: its part of the grammar, the alternative, and its piece, which derives the part.
pub record Piece (m : Mark) (post : List Seen) : Type 0 where
  pub which : Part
  pub after : List Symbol
  pub chosen : Among (mark m ∷ after) (rule which)
  pub inner : List Seen
  pub back : List Seen
  pub is : post ≡ inner ++ back
  pub derived : Derives after inner

-- Whether the first symbol is such a mark.
unfoldable pub starts_marked : List Symbol → Bool
starts_marked [] = false
starts_marked (one lo hi ∷ ss) = false
starts_marked (mark m ∷ ss) = is_start m
starts_marked (part n ∷ ss) = false

clean_tidy : (ss : List Symbol) → clean ss ≡ true → tidy ss ≡ true
unfolding clean tidy
clean_tidy [] h = refl
clean_tidy (one lo hi ∷ ss) h = h
clean_tidy (mark m ∷ ss) h = (both (not (is_start m)) (clean ss) h).1
clean_tidy (part n ∷ ss) h = h

clean_unmarked : {A : Type 0} (ss : List Symbol) → clean ss ≡ true → starts_marked ss ≡ true → A
unfolding clean starts_marked
clean_unmarked [] h k = clash k
clean_unmarked (one lo hi ∷ ss) h k = clash k
clean_unmarked (mark m ∷ ss) h k = clash (sym (ap not k) ∙ (both (not (is_start m)) (clean ss) h).0)
clean_unmarked (part n ∷ ss) h k = clash k

clean_append : (r ss : List Symbol) → clean r ≡ true → clean ss ≡ true → clean (r ++ ss) ≡ true
unfolding clean
clean_append [] ss h k = k
clean_append (one lo hi ∷ r) ss h k = clean_append r ss h k
clean_append (mark m ∷ r) ss h k = let b = both (not (is_start m)) (clean r) h in rw b.0 (clean_append r ss b.1 k)
clean_append (part n ∷ r) ss h k = clean_append r ss h k

tidy_append : (r ss : List Symbol) → tidy r ≡ true → clean ss ≡ true → tidy (r ++ ss) ≡ true
unfolding tidy
tidy_append [] ss h k = clean_tidy ss k
tidy_append (one lo hi ∷ r) ss h k = clean_append r ss h k
tidy_append (mark m ∷ r) ss h k = clean_append r ss h k
tidy_append (part n ∷ r) ss h k = clean_append r ss h k

-- A derivation of an alternative that begins with a mark.
unmark : (m : Mark) (r : List Symbol) (es : List Seen) → Derives (mark m ∷ r) es → (fs : List Seen) × (es ≡ marked m ∷ fs) × Derives r fs
unmark m r es (marks {es = fs} d) = (fs, refl, d)

-- The piece at the head of an expansion.
head_piece : {k : ℕ} (n : Part) (r ss : List Symbol) (es : List Seen) (m : Mark) (post : List Seen) → Among r (rule n) → Long k (r ++ ss) es →
    clean ss ≡ true → es ≡ marked m ∷ post → starts_marked (r ++ ss) ≡ true → Piece m post
unfolding starts_marked
head_piece n [] ss es m post a d c e h = clean_unmarked ss c h
head_piece n (one lo hi ∷ r) ss es m post a d c e h = clash h
head_piece n (part q ∷ r) ss es m post a d c e h = clash h
head_piece n (mark q ∷ r) ss es m post a d c e h =
    let p = part_at d (mark q ∷ r) ss refl in
    let u = unmark q r p.front p.first in
    let f : marked m ∷ post ≡ marked q ∷ (u.0 ++ p.back) = sym e ∙ p.is ∙ ap (λ (x : List Seen). x ++ p.back) u.1 in
    let z : q ≡ m = cc in
    record {
      which = n;
      after = r;
      chosen = subst (λ (x : Mark). Among (mark x ∷ r) (rule n)) z a;
      inner = u.0;
      back = p.back;
      is = cc;
      derived = u.2;
    }

no_piece : {A : Type 0} (m : Mark) (pre post : List Seen) → [] ≡ pre ++ (marked m ∷ post) → A
no_piece m [] post e = let z : ◌≡◌ {A = ℕ} 0 1 = cc in absurd (omega arith)
no_piece m (x ∷ pre) post e = let z : ◌≡◌ {A = ℕ} 0 1 = cc in absurd (omega arith)

piece_in : {k : ℕ} {ss : List Symbol} {es : List Seen} → Long k ss es → tidy ss ≡ true → (m : Mark) → is_start m ≡ true →
    ((post : List Seen) → es ≡ marked m ∷ post → starts_marked ss ≡ true → Piece m post) → (pre post : List Seen) → es ≡ pre ++ (marked m ∷ post) →
    Piece m post
unfolding tidy starts_marked
piece_in l_nothing t m s h pre post e = no_piece m pre post e
piece_in (l_reads {t = u} {ss = ss} {es = es} w d) t m s h pre post e = go pre e (piece_in d (clean_tidy ss t) m s (λ q i j. clean_unmarked ss t j))
  where
    go : (pre : List Seen) → token u ∷ es ≡ pre ++ (marked m ∷ post) → ((pre post : List Seen) → es ≡ pre ++ (marked m ∷ post) → Piece m post) → Piece m post
    go [] e f = let z : ◌≡◌ {A = ℕ} 0 1 = cc in absurd (omega arith)
    go (x ∷ pre) e f = f pre post (cc)
piece_in (l_marks {m = q} {ss = ss} {es = es} d) t m s h pre post e = go pre e (piece_in d (clean_tidy ss t) m s (λ r i j. clean_unmarked ss t j))
  where
    go : (pre : List Seen) → marked q ∷ es ≡ pre ++ (marked m ∷ post) → ((pre post : List Seen) → es ≡ pre ++ (marked m ∷ post) → Piece m post) → Piece m post
    go [] e f = let z : q ≡ m = cc in h post e (ap is_start z ∙ s)
    go (x ∷ pre) e f = f pre post (cc)
piece_in (l_expands {n = n} {r = r} {ss = ss} {es = es} a d) t m s h pre post e =
    piece_in d (tidy_append r ss (all_among tidy (rule n) (all_tidy n) a) t) m s (λ q i j. head_piece n r ss es m q a d t i j) pre post e

-- In what a text of the grammar comes by, every mark with which an item begins stands before the item's piece.
pub piece_at : {es : List Seen} → Derives (part Document ∷ []) es → (m : Mark) → is_start m ≡ true → (pre post : List Seen) → es ≡ pre ++ (marked m ∷ post) →
    Piece m post
unfolding tidy clean starts_marked
piece_at d m s pre post e = piece_in (measured d).long refl m s (λ q i j. clash j) pre post e

-- The piece derives its part.
pub piece_derives : (m : Mark) (post : List Seen) (p : Piece m post) → Derives (part p.which ∷ []) (marked m ∷ p.inner)
piece_derives m post p = expands p.chosen (subst (λ (x : List Symbol). Derives (mark m ∷ x) (marked m ∷ p.inner)) (sym (append-nil p.after))
    (marks p.derived))
