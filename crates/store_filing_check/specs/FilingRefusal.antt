-- What the check of the room and that of a lent document answer.
use Rattle.std.proofs.Math.Option.{Option}
use Rattle.std.specs.Prelude.{List, ℕ, ◌+◌, ◌/◌, ltb, leb, length}
use Rattle.definition.specs.declared.Answer.{Answer}
use Rattle.definition.specs.Lists.{or_else}
use Rattle.definition.specs.Cards.{card_words, document_fault}
use Rattle.definition.specs.Refusals.{text_capacity, document_capacity, card_capacity, refuse}
use Rattle.definition.specs.Store.{document_count, text_used_of, cards_used_of}

-- 24 and 25, where this many bytes and cards are used and that many are lent.
unfoldable pub capacity_for : ℕ → ℕ → ℕ → ℕ → Option Answer
capacity_for text cards lent count =
    let n25 = refuse 25 (ltb card_capacity (cards + count)) in
    or_else (refuse 24 (ltb text_capacity (text + lent))) n25

-- 1 to 5, 23, 24 and 25 of a lent document, by the counts among a store's words.
unfoldable pub lent_refusal : List ℕ → List ℕ → List ℕ → Option Answer
lent_refusal words lent cards =
    let n24 = capacity_for (text_used_of words) (cards_used_of words) (length lent) (length cards / card_words) in
    let n23 = or_else (refuse 23 (leb document_capacity (document_count words))) n24 in
    or_else (document_fault lent cards) n23
