-- The page on a message that 1 to 9 refuse: a title, and what is wrong with its figures, which its first four octets say; and its octets for a viewer
-- with the right. Assumes nothing.
use Rattle.std.specs.Prelude.{ℕ, ◌+◌, cond, List, [], ◌∷◌, ◌++◌, ltb, length}
use Rattle.rules.specs.Framing.{version, flag_t, message_type, length_field, header_length}
use Rattle.rules.specs.Octets.{five}
use Rattle.rules.specs.declared.Verdict.{Verdict}
use Rattle.phrases.specs.Table.{pages, verdicts}
use Rattle.phrases.specs.Sentences.{said, narrow}
use Rattle.columns.specs.declared.View.{View}
use Rattle.refusing.specs.Dumps.{dump}
use Rattle.refusing.specs.Levels.{reason_of}

-- the length that the header gives the message; 0, which it never gives, if that has more than 16 bits
unfoldable pub claim : List ℕ → ℕ
claim m = cond (ltb 65535 (length_field m + 4)) 0 (length_field m + 4)

-- the numbers that are said: kind, size, type, the five of the verdict, then version, header, claim, T, the other T, the reason of a 9
unfoldable pub refused_run : ℕ → List ℕ → Verdict → ℕ → List ℕ
refused_run k m v reason =
    narrow k ∷ narrow (length m) ∷ message_type m
    ∷ (five v ++ (version m ∷ header_length m ∷ claim m ∷ cond (flag_t m) 1 0 ∷ cond (flag_t m) 0 1 ∷ reason ∷ []))

-- 1 to 4 say nothing of the message's type
unfoldable pub title_number : Verdict → ℕ
title_number v = cond (ltb v.code 5) 0 1

unfoldable pub refused_lines : List ℕ → Verdict → List ℕ → List ℕ
refused_lines names v run = said names run pages (title_number v) ++ said names run verdicts v.code

unfoldable pub refused_page : List ℕ → View → Verdict → List ℕ → List ℕ
refused_page names w v m = refused_lines names v (refused_run w.kind m v (reason_of w.kind m v)) ++ cond w.right (dump m) []
