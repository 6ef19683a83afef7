-- What the judge program writes for case G: by computation. Assumes nothing.
use mathlib.Core.Path.{◌≡◌, refl}
use mathlib.Core.List.{[], ◌∷◌}
use Rattle.rules.specs.Framing.{version, flag_p, flag_t, message_type, length_field, header_length, head_of}
use Rattle.rules.specs.Types.{parteds, least_by_type, least_of}
use Rattle.rules.specs.Listings.{levels, messages, book, seek, seek_message, listing, message_of, is_message}
use Rattle.rules.specs.Frames.{seen, exceeds}
use Rattle.rules.specs.Standing.{is_short, mark_after, standing, marked, entered, item_of}
use Rattle.rules.specs.Taking.{run, walk, items_of, body_level, taken}
use Rattle.rules.specs.Table.{rows_of, kept_rows}
use Rattle.rules.specs.Verdicts.{check, first, short_checks, has_kept, level_checks, group_checks, lack_checks, header_checks, framing_checks, call_checks}
use Rattle.rules.specs.Program.{digit_at, decimal, blanked, line, row_lines, text_of}
use Rattle.rules.specs.Examples.{message_g}

-- accept 2 2 / 0 93 0 16 5 0 / 1 73 0 20 1 0
pub text-g : text_of book 1 message_g
    ≡ 97 ∷ 99 ∷ 99 ∷ 101 ∷ 112 ∷ 116 ∷ 32 ∷ 50 ∷ 32 ∷ 50 ∷ 10
    ∷ 48 ∷ 32 ∷ 57 ∷ 51 ∷ 32 ∷ 48 ∷ 32 ∷ 49 ∷ 54 ∷ 32 ∷ 53 ∷ 32 ∷ 48 ∷ 10
    ∷ 49 ∷ 32 ∷ 55 ∷ 51 ∷ 32 ∷ 48 ∷ 32 ∷ 50 ∷ 48 ∷ 32 ∷ 49 ∷ 32 ∷ 48 ∷ 10 ∷ []
unfolding version flag_p flag_t message_type length_field header_length head_of parteds least_by_type least_of levels messages book seek seek_message listing message_of is_message is_short mark_after standing marked entered item_of run walk items_of body_level taken rows_of kept_rows check first short_checks has_kept level_checks group_checks lack_checks header_checks framing_checks call_checks digit_at decimal blanked line row_lines text_of seen exceeds
text-g = refl
