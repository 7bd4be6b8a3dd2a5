-- The iterator gives the words in turn.
use Rattle.std.proofs.Common.{refl, ap, ◌∙◌}
use Rattle.std.proofs.lemmas.Iterator.Consumers.{nth_from_yields_List, YieldsList-from_first}
use Rattle.case_words.specs.Words.{words_of}
use Rattle.case_words.specs.Pieces.{pieces_left}
use Rattle.case_words.proofs.Cuts.{ranked}
use Rattle.case_words.proofs.Case.word.Goals as goal

pub returns : goal.returns
returns c =
    let words = words_of c.args.self.now.text.now in
    let given = nth_from_yields_List _ c.nth.new.self _ c.nth.ensures.ran (YieldsList-from_first _ pieces_left {s = c.of.result} words c.of.ensures) in
    ap (λ word. word.now) c.unwrap_or.ensures ∙ ranked c.nth.result _ words c.args.rank given refl
