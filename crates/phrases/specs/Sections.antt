-- The sections by name are those that the table of the texts numbers. Assumes nothing.
use Rattle.std.specs.Prelude.{ℕ}
use Rattle.phrases.specs.declared.sections.Section.{Section}
use Rattle.phrases.specs.declared.sections.Section.TheVariants.{Kinds, Messages, Standings, Reasons, Causes, Levels, Counts, Verdicts, Pages, Rows, Endings, Marks, Covers, Headers, Claims, Sizes, Voids}
use Rattle.phrases.specs.Table.{kinds, messages, standings, reasons, causes, levels, counts, verdicts, pages, rows, endings, marks, covers, headers, claims, sizes, voids}

abbrev pub number_of : Section → ℕ
number_of Kinds = kinds
number_of Messages = messages
number_of Standings = standings
number_of Reasons = reasons
number_of Causes = causes
number_of Levels = levels
number_of Counts = counts
number_of Verdicts = verdicts
number_of Pages = pages
number_of Rows = rows
number_of Endings = endings
number_of Marks = marks
number_of Covers = covers
number_of Headers = headers
number_of Claims = claims
number_of Sizes = sizes
number_of Voids = voids
