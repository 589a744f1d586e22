-- The token ahead of a place, as code carries it along.
use Rattle.std.specs.Prelude.{◌≡◌, List, ℕ}
use Rattle.parser_laws.specs.Standing.{AheadOf}
use Rattle.parser_lexer.specs.Sorts.{sort_number}
use Rattle.parser_lexer.specs.declared.cursor.Cursor.{Cursor}

-- The cursor tells what stands in a text after the token that ends at `last`.
abbrev pub Ahead : List ℕ → Cursor → Type 0
Ahead text c = AheadOf text c.last (sort_number c.sort) c.begins c.ends

-- A cursor of a text at a place, with so many cards, that tells what stands there.
abbrev pub Next : List ℕ → ℕ → ℕ → Cursor → Type 0
Next text at cards k = Ahead text k × (k.text.now ≡ text) × (k.last ≡ at) × (k.cards ≡ cards)
