-- A reading that has come to a place of a text, and what stands ahead of it there.
use Rattle.std.specs.Prelude.{◌≡◌, List, [], true, false, ℕ, ◌-◌, ◌≤◌, drop}
use Rattle.definition.specs.Grammar.{Symbol}
use Rattle.definition.specs.Lexical.{Lexed, tokens_from}
use Rattle.definition.specs.Cards.{Card}
use Rattle.parser_laws.specs.Verdict.{Verdict, verdict, before}

-- The tokens of a text from a place on.
unfoldable pub from : List ℕ → ℕ → Lexed
from text at = tokens_from 0 at (drop at text)

-- How a reading ends whose last token ends at a place, with symbols to come, levels open, cards listed and the number of the newest heading's card.
unfoldable pub standing : List ℕ → ℕ → List Symbol → ℕ → List Card → ℕ → Verdict
standing text at ss level cs h = verdict (from text at) ss level (record { cards = cs; head = h; end = at })

-- What stands ahead of a place, told by numbers: a token of a sort up to 54 with the place where it begins and where it ends; 55 for the end of the
-- text, and 56 where nothing readable stands, with the place.
pub record AheadOf (text : List ℕ) (at sort begins ends : ℕ) : Type 0 where
  pub token : sort ≤ 54 → from text at ≡ before (record { sort = sort; begins = begins; size = ends - begins }) (from text ends)
  pub ended : sort ≡ 55 → from text at ≡ record { tokens = []; ends = begins; broken = false }
  pub unread : sort ≡ 56 → from text at ≡ record { tokens = []; ends = begins; broken = true }
  pub told : sort ≤ 56
  pub spans : begins ≤ ends
