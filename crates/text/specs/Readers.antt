-- What a reader holds. Assumes nothing: these are definitions.
--     state_of reader     what it knows of the text so far
use Rattle.text.specs.Texts.{State}
use Rattle.text.specs.declared.readers.Reader.{Reader}

abbrev pub state_of : Reader → State
state_of r = record { line = r.line; mode = r.mode; told = r.word.items; value = r.page }
