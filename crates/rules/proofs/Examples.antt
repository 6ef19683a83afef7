-- Every example comes out as it is written: by computation. Assumes nothing.
use mathlib.Core.Path.{◌≡◌, refl}
use mathlib.Core.Bool.{true, false}
use mathlib.Core.List.{[], ◌∷◌, map}
use Rattle.rules.specs.Framing.{version, flag_p, flag_t, message_type, length_field, header_length, head_of}
use Rattle.rules.specs.Types.{parteds, least_by_type, least_of, groups, is_group, whole_types, covers_whole, rest_types, covers_rest}
use Rattle.rules.specs.Listings.{levels, messages, book, seek, seek_message, listing, message_of, is_message}
use Rattle.rules.specs.Frames.{seen, filled_by, frames_by, frames_of, tally, exceeds, hides}
use Rattle.rules.specs.Standing.{kept, unexpected, repeated, short, is_short, mark_after, standing, marked, entered, item_of}
use Rattle.rules.specs.Taking.{run, walk, items_of, body_level, taken}
use Rattle.rules.specs.Table.{rows_of, kept_rows, header, table_of, laid}
use Rattle.rules.specs.Verdicts.{check, first, short_checks, has_kept, level_checks, group_checks, lack_checks, header_checks, framing_checks, lent_checks, call_checks, call_table, judge_checks}
use Rattle.rules.specs.Covered.{own_covered, covered_by, covered_in, covered, open_octets, zeroed, inside_cleared, clear_all, masked, call_copy}
use Rattle.rules.specs.Emitting.{size_of, sizes, within, emitted}
use Rattle.rules.specs.Cleaned.{received, pieces, cleaned, clean_checks, clean_length, clean_copy}
use Rattle.rules.specs.Values.{standing_kept, is_of, table_rows, row_span, desk_span, is_plain, seek_plain, plain_span}
use Rattle.rules.specs.Built.{given, givens, since, depth_first, some_row, any_of, reasons, built, build_checks, headed_checks, build_length, build_room}
use Rattle.rules.specs.Examples.{examples, rooms, contexts, empties, report, mixed, voids, outcome, written}
use Rattle.rules.specs.CleanExamples.{cleanings, clean_outcome, clean_written}
use Rattle.rules.specs.Counting.{count_rows, quarter_of}
use Rattle.rules.specs.CountExamples.{countings, count_outcome, count_written, lengths, most}
use Rattle.rules.specs.LookupExamples.{lookups, lookup_outcome, lookup_written}
use Rattle.rules.specs.BuildExamples.{builds, build_outcome, build_written}

pub a-to-m : map outcome examples ≡ map written examples
unfolding examples version flag_p flag_t message_type length_field header_length head_of parteds least_by_type least_of whole_types covers_whole rest_types covers_rest levels messages book seek seek_message listing message_of is_message is_short mark_after standing marked entered item_of run walk items_of body_level taken rows_of kept_rows header table_of laid check first short_checks has_kept level_checks group_checks lack_checks header_checks framing_checks lent_checks call_checks call_table open_octets zeroed clear_all masked call_copy seen filled_by frames_by frames_of tally exceeds inside_cleared
a-to-m = refl

-- just enough is lent, or too little: 13 before 10, and both before 11 and 12, which leave a copy
pub all-rooms : map outcome rooms ≡ map written rooms
unfolding rooms version flag_p flag_t message_type length_field header_length head_of parteds least_by_type least_of whole_types covers_whole rest_types covers_rest levels messages book seek seek_message listing message_of is_message is_short mark_after standing marked entered item_of run walk items_of body_level taken rows_of kept_rows header table_of laid check first short_checks has_kept level_checks group_checks lack_checks header_checks framing_checks lent_checks call_checks call_table open_octets zeroed clear_all masked call_copy seen filled_by frames_by frames_of tally exceeds inside_cleared
all-rooms = refl

-- a Context Response on S10, and what kind 4 takes
pub all-contexts : map outcome contexts ≡ map written contexts
unfolding contexts version flag_p flag_t message_type length_field header_length head_of parteds least_by_type least_of whole_types covers_whole rest_types covers_rest levels messages book seek seek_message listing message_of is_message is_short mark_after standing marked entered item_of run walk items_of body_level taken rows_of kept_rows header table_of laid check first short_checks has_kept level_checks group_checks lack_checks header_checks framing_checks lent_checks call_checks call_table open_octets zeroed clear_all masked call_copy seen filled_by frames_by frames_of tally exceeds inside_cleared
all-contexts = refl

-- ten APNs stand, and eleven void: short ones counted
pub all-voids : map outcome voids ≡ map written voids
unfolding voids empties version flag_p flag_t message_type length_field header_length head_of parteds least_by_type least_of whole_types covers_whole rest_types covers_rest levels messages book seek seek_message listing message_of is_message is_short mark_after standing marked entered item_of run walk items_of body_level taken rows_of kept_rows header table_of laid check first short_checks has_kept level_checks group_checks lack_checks header_checks framing_checks lent_checks call_checks call_table open_octets zeroed clear_all masked call_copy seen filled_by frames_by frames_of tally exceeds inside_cleared
all-voids = refl

-- which octets of the last of these are covered, from the header of its 180/0 on
pub voids-covered : map (covered book 1 (report mixed)) (33 ∷ 36 ∷ 37 ∷ 40 ∷ 41 ∷ 42 ∷ 43 ∷ 46 ∷ 47 ∷ 48 ∷ 49 ∷ 52 ∷ 53 ∷ 57 ∷ 58 ∷ 97 ∷ [])
    ≡ false ∷ false ∷ false ∷ false ∷ true ∷ true ∷ false ∷ false ∷ true ∷ true ∷ false ∷ false ∷ true ∷ true ∷ false ∷ false ∷ []
unfolding empties version flag_p flag_t message_type length_field header_length head_of parteds least_by_type least_of whole_types covers_whole rest_types covers_rest levels messages book seek seek_message listing message_of is_message is_short mark_after standing marked entered item_of run walk items_of body_level taken check first short_checks has_kept level_checks group_checks lack_checks header_checks framing_checks seen filled_by frames_by frames_of tally exceeds hides own_covered covered_by covered_in covered
voids-covered = refl

pub all-cleanings : map clean_outcome cleanings ≡ map clean_written cleanings
unfolding cleanings empties version flag_p flag_t message_type length_field header_length head_of parteds least_by_type least_of groups is_group levels messages book seek seek_message listing message_of is_message is_short mark_after standing marked entered item_of run walk items_of body_level taken laid check first short_checks has_kept level_checks group_checks lack_checks header_checks framing_checks size_of within emitted received pieces cleaned clean_checks clean_length clean_copy seen filled_by frames_by frames_of tally exceeds
all-cleanings = refl

-- rows counted before any table is lent
pub all-countings : map count_outcome countings ≡ map count_written countings
unfolding countings empties version flag_p flag_t message_type length_field header_length head_of parteds least_by_type least_of groups is_group levels messages book seek seek_message listing message_of is_message is_short mark_after standing marked entered item_of run walk items_of body_level taken check first short_checks has_kept level_checks group_checks lack_checks header_checks framing_checks seen filled_by frames_by frames_of tally exceeds count_rows
all-countings = refl

pub all_quarters : map quarter_of lengths ≡ most
all_quarters = refl

pub all-lookups : map lookup_outcome lookups ≡ map lookup_written lookups
unfolding lookups standing_kept is_of table_rows row_span desk_span is_plain seek_plain plain_span
all-lookups = refl

pub all-builds : map build_outcome builds ≡ map build_written builds
unfolding builds version flag_p flag_t message_type length_field header_length head_of parteds least_by_type least_of groups is_group levels messages book seek seek_message listing message_of is_message is_short mark_after standing marked entered item_of run walk items_of body_level taken kept_rows laid check first short_checks has_kept level_checks group_checks lack_checks header_checks framing_checks judge_checks size_of sizes within emitted given givens standing_kept since depth_first some_row any_of reasons built build_checks headed_checks build_length build_room seen filled_by frames_by frames_of tally exceeds
all-builds = refl

-- a User Location with no part, with each of the six alone, with TAI and ECGI, with all, with the two highest bits alone, and with every bit
pub lengths-of_86 : map (least_of 86) (0x00 ∷ 0x01 ∷ 0x02 ∷ 0x04 ∷ 0x08 ∷ 0x10 ∷ 0x20 ∷ 0x18 ∷ 0x3F ∷ 0xC0 ∷ 0xFF ∷ [])
    ≡ 1 ∷ 8 ∷ 8 ∷ 8 ∷ 6 ∷ 8 ∷ 6 ∷ 13 ∷ 39 ∷ 1 ∷ 39 ∷ []
unfolding least_of parteds
lengths-of_86 = refl

-- how much of a User Location of 13 octets is open, by its standing: the first octet where it is kept or short
pub opens-of_86 : map (λ s. open_octets 86 s 13) (kept ∷ unexpected ∷ repeated ∷ short ∷ []) ≡ 1 ∷ 0 ∷ 0 ∷ 1 ∷ []
unfolding open_octets covers_whole whole_types covers_rest rest_types
opens-of_86 = refl

-- an F-TEID with neither address, with one, with the other, with both; a PDN Address Allocation of PDN type 0 to 4
pub lengths-of_87 : map (least_of 87) (0x0A ∷ 0x8A ∷ 0x4A ∷ 0xCA ∷ []) ≡ 5 ∷ 9 ∷ 21 ∷ 25 ∷ []
unfolding least_of parteds
lengths-of_87 = refl

pub lengths-of_79 : map (least_of 79) (0x00 ∷ 0x01 ∷ 0x02 ∷ 0x03 ∷ 0x04 ∷ []) ≡ 1 ∷ 5 ∷ 18 ∷ 22 ∷ 1 ∷ []
unfolding least_of parteds
lengths-of_79 = refl
