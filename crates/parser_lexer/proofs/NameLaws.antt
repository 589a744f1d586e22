-- Names, and the words of the grammar among them.
use mathlib.Core.Path.{◌≡◌, refl, sym, ap, ◌∙◌}
use mathlib.Core.List.{List, [], ◌∷◌}
use mathlib.Core.Bool.{Bool, true, false, ◌&&◌, ◌||◌, not, cond}
use Prim.Native.Nat.{ℕ, suc, ◌+◌, ◌≤◌, ◌<◌}
use native.Mathlib.Omega.{arith}
use borrow.Author.Tests.{eq-eqb, ne_eqb, le-leb, lt-leb}
use lib.Dec.{eqb, ltb, leb}
use lib.ListN.{length, get_or}
use Rattle.std.specs.Cmp.Lexicographic.{pointwise}
use Rattle.std.specs.List.{prefix_len}
use Rattle.std.specs.Prelude.{nat_eq}
use Rattle.std.proofs.lemmas.Slice.Eq.{bytes_eq-Decides}
use Rattle.definition.specs.Lists.{choose, all, any}
use Rattle.definition.specs.Names.{is_name_start, is_name_byte, same_name}
use Rattle.definition.specs.Grammar.{words, place_of, sort_of_name}
use Rattle.definition.specs.Lexical.{byte, run}
use Rattle.definition.proofs.Lists.{same_name_eq, same_name_refl}
use Rattle.parser_lexer.specs.Words.{telling_place}
use Rattle.name.proofs.Laws.{start_lower, continue_start, continue_digit}
use Rattle.parser_laws.proofs.Tests.{clash, both}

-- ---- How far a name reaches.

pub lower : (b : ℕ) → 97 ≤ b → b ≤ 122 → is_name_byte b ≡ true
lower b h k = continue_start b (start_lower b h ∙ le-leb b 122 k)

-- From the first small letter on, what goes on a name is a small letter.
pub letters_told : (b : ℕ) → 97 ≤ b → leb b 122 ≡ is_name_byte b
letters_told b h = go (leb b 122) refl
  where
    go : (t : Bool) → leb b 122 ≡ t → t ≡ is_name_byte b
    go true e = sym (continue_start b (start_lower b h ∙ e))
    go false e = sym (continue_digit b (start_lower b h ∙ e) (omega arith) ∙ lt-leb b 57 (omega arith))

-- What lies below the letters begins no name, and what lies below the digits goes on none.
pub below_letters : (b : ℕ) → b < 65 → is_name_start b ≡ false
unfolding is_name_start
below_letters b h = simp (lt-leb 65 b h, lt-leb 97 b (omega arith), ne_eqb b 95 (omega arith))

pub below_digits : (b : ℕ) → b < 48 → is_name_byte b ≡ false
unfolding is_name_byte
below_digits b h = simp (below_letters b (omega arith), lt-leb 48 b h)

-- How many bytes pass a test, in the words of std.
pub run_prefix : (p : ℕ → Bool) (bs : List ℕ) → run p bs ≡ prefix_len p bs
unfolding run
run_prefix p [] = refl
run_prefix p (b ∷ bs) = go (p b) (run_prefix p bs)
  where
    go : (t : Bool) → run p bs ≡ prefix_len p bs → choose t (1 + run p bs) 0 ≡ cond t (1 + prefix_len p bs) 0
    go true h = ap (λ (n : ℕ). 1 + n) h
    go false h = refl

-- What `==` says of two names is what their order says.
pub same_as : (x y : List ℕ) → pointwise nat_eq x y ≡ same_name x y
same_as x y = go (pointwise nat_eq x y) refl (same_name x y) refl
  where
    go : (t : Bool) → pointwise nat_eq x y ≡ t → (u : Bool) → same_name x y ≡ u → t ≡ u
    go true e true f = refl
    go true e false f = clash (sym f ∙ ap (same_name x) (sym ((bytes_eq-Decides x y).0 e)) ∙ same_name_refl x)
    go false e true f = clash (sym e ∙ (bytes_eq-Decides x y).1 (same_name_eq x y f))
    go false e false f = refl

-- ---- Which word a name is.

-- A name that fails a test which all words pass is no word.
absent : (p : List ℕ → Bool) (w : List ℕ) → p w ≡ false → (ws : List (List ℕ)) → all p ws ≡ true → place_of w ws ≡ length ws
unfolding all place_of
absent p w f [] a = refl
absent p w f (x ∷ ws) a = go (p x) refl (same_name w x) refl a (absent p w f ws)
  where
    go : (t : Bool) → p x ≡ t → (s : Bool) → same_name w x ≡ s → choose t (all p ws) false ≡ true → (all p ws ≡ true → place_of w ws ≡ length ws) →
        choose s 0 (1 + place_of w ws) ≡ suc (length ws)
    go true e true g b h = clash (sym f ∙ ap p (same_name_eq w x g) ∙ e)
    go true e false g b h = let k = h b in omega arith
    go false e s g b h = clash b

no_word : (p : List ℕ → Bool) (w : List ℕ) → p w ≡ false → all p words ≡ true → sort_of_name w ≡ 54
unfolding sort_of_name words
no_word p w f a = ap (λ (n : ℕ). 17 + n) (absent p w f words a)

-- The numbers that a `match` has passed, the last first.
abbrev pub Passed : List ℕ → ℕ → Type 0
Passed [] x = Unit {0}
Passed (k ∷ ks) x = Passed ks x × (x ≡ k → ⊥)

passed : (ks : List ℕ) (x : ℕ) → Passed ks x → any (eqb x) ks ≡ false
unfolding any
passed [] x h = refl
passed (k ∷ ks) x h = rw (ne_eqb x k h.1) (passed ks x h.0)

-- No word has another size than these.
unfoldable pub sizes : List ℕ → Bool
sizes ns = all (λ y. any (eqb (length y)) ns) words

-- A word is the only one of its size; of a size, the only one with its byte at a place.
abbrev elsewhere : List ℕ → ℕ → ℕ → List ℕ → Bool
elsewhere x n i y = not (eqb (length y) n) || not (eqb (byte i y) (byte i x))

unfoldable pub alone : List ℕ → ℕ → ℕ → Bool
alone x n i = ltb i n && all (λ y. same_name y x || elsewhere x n i y) words

-- A name that can be one word only, since it fails a test which all others pass.
one_word : (p : List ℕ → Bool) (x w : List ℕ) → p w ≡ false → all (λ y. same_name y x || p y) words ≡ true →
    choose (same_name w x) (sort_of_name x) 54 ≡ sort_of_name w
one_word p x w f a = go (same_name w x) refl
  where
    go : (t : Bool) → same_name w x ≡ t → choose t (sort_of_name x) 54 ≡ sort_of_name w
    go true g = ap sort_of_name (sym (same_name_eq w x g))
    go false g =
        let h : (same_name w x || p w) ≡ false = rw (g, f) in
        sym (no_word (λ y. same_name y x || p y) w h a)

-- Every word of a size has one of these bytes at a place.
abbrev marked : ℕ → ℕ → List ℕ → List ℕ → Bool
marked n i bs y = not (eqb (length y) n) || any (eqb (byte i y)) bs

unfoldable pub deciding : ℕ → ℕ → List ℕ → Bool
deciding n i bs = ltb i n && all (marked n i bs) words

-- The byte that tells, of a name of a size.
told_byte : (w : List ℕ) (n : ℕ) → length w ≡ n → (k : ℕ) → k ≡ get_or w (telling_place (length w)) 0 → get_or w (telling_place n) 0 ≡ k
told_byte w n l k e = ap (λ (m : ℕ). get_or w (telling_place m) 0) (sym l) ∙ sym e

pub only : (w : List ℕ) (n : ℕ) → length w ≡ n → (x : List ℕ) → alone x n (telling_place n) ≡ true → {k : ℕ} →
    k ≡ get_or w (telling_place (length w)) 0 → k ≡ byte (telling_place n) x → choose (same_name w x) (sort_of_name x) 54 ≡ sort_of_name w
unfolding alone
only w n l x a {k} t e =
    let i = telling_place n in
    let b = both (ltb i n) (all (λ y. same_name y x || elsewhere x n i y) words) a in
    let f : elsewhere x n i w ≡ false = rw (eq-eqb _ _ l, eq-eqb _ _ (told_byte w n l k t ∙ e)) in
    one_word (elsewhere x n i) x w f b.1

pub no_byte : (w : List ℕ) (n : ℕ) → length w ≡ n → (bs : List ℕ) → deciding n (telling_place n) bs ≡ true → {k : ℕ} →
    k ≡ get_or w (telling_place (length w)) 0 → Passed bs k → 54 ≡ sort_of_name w
unfolding deciding
no_byte w n l bs a {k} t h =
    let i = telling_place n in
    let b = both (ltb i n) (all (marked n i bs) words) a in
    let g : Passed bs (get_or w i 0) = rw (sym (told_byte w n l k t)) at h in
    let f : marked n i bs w ≡ false = rw (eq-eqb _ _ l, passed bs (get_or w i 0) g) in
    sym (no_word (marked n i bs) w f b.1)

pub no_size : (w ns : List ℕ) → sizes ns ≡ true → Passed ns (length w) → 54 ≡ sort_of_name w
unfolding sizes
no_size w ns a h =
    let f : any (eqb (length w)) ns ≡ false = passed ns (length w) h in
    sym (no_word (λ y. any (eqb (length y)) ns) w f a)
