use Rattle.expr_grammar.proofs.Cuts.{word_behind, no_word_behind}
use Rattle.expr_grammar.proofs.words.next_word.Goals as goal

pub returns-then-length-eq0-clause-words : goal.returns-then-length-eq0-clause-words
returns-then-length-eq0-clause-words c =
    no_word_behind c.args.words.at c.space_count-spaces.result c.word_length-length.result c.args.words.rest.now c.split_at.result.1.now
    c.space_count-spaces.ensures.value c.split_at.ensures.back c.word_length-length.ensures.value c.if-length-eq0.true

pub returns-clause-words : goal.returns-clause-words
returns-clause-words c =
    word_behind c.args.words.at c.space_count-spaces.result c.word_length-length.result c.args.words.rest.now c.split_at.result.1.now
    c.split_at-2.result.0.now c.split_at-2.result.1.now
    c.space_count-spaces.ensures.value c.split_at.ensures.back c.word_length-length.ensures.value c.if-length-eq0.false
    c.split_at-2.ensures.front c.split_at-2.ensures.back
