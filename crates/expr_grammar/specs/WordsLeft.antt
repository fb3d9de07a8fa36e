-- The pieces of a text as the definitions see them.
use Rattle.std.specs.Prelude.{ℕ, List, map}
use Rattle.expressions.specs.Pieces as pieces
use Rattle.expressions.specs.Pieces.{placed_words}
use Rattle.expr_grammar.specs.declared.words.Piece.{Piece}
use Rattle.expr_grammar.specs.declared.words.Words.{Words}

-- a piece with the bytes that it lends
abbrev pub piece_of : Piece → pieces.Piece
piece_of piece = record { place = piece.at; text = piece.text.now }

-- the words that are left
abbrev pub left : Words → List pieces.Piece
left words = placed_words words.at words.rest.now

-- the texts of pieces
abbrev pub texts : List pieces.Piece → List (List ℕ)
texts placed = map (λ piece. piece.text) placed
