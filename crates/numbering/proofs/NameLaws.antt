-- A card's name by the span that says where it is.
use mathlib.Core.Path.{◌≡◌, ap}
use mathlib.Core.List.{List}
use Prim.Native.Nat.{ℕ, ◌*◌}
use lib.ListN.{drop}
use Rattle.definition.specs.Names.{bytes_at}
use Rattle.definition.specs.Cards.{Card, card_words, card_from}
use Rattle.definition.specs.Headings.{name_of}
use Rattle.numbering.specs.Numbers.{name_in}

pub name_span : (text cards : List ℕ) (i : ℕ) (c : Card) → c ≡ card_from (drop (card_words * i) cards) → bytes_at text c.name_at c.name_len ≡ name_in text cards i
unfolding name_in name_of
name_span text cards i c e = ap (λ (d : Card). bytes_at text d.name_at d.name_len) e
