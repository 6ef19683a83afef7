-- What the theorems ask of listings: tests that are computed once over all levels. Assumes nothing.
use Rattle.std.specs.Prelude.{ℕ, Bool, true, false, not, ◌&&◌, ◌||◌, List, [], ◌∷◌, eqb, ltb, leb, length}
use Rattle.std.specs.Bool.{beq}
use Rattle.rules.specs.Types.{is_group}
use Rattle.rules.specs.Listings.{Line, Message, Book, Limit, any_instance, listing}
use Rattle.rules.specs.Standing.{most_lines}

abbrev pub all : List Bool → Bool
all [] = true
all (c ∷ cs) = c && all cs

unfoldable pub every_line : (Line → Bool) → List Line → Bool
every_line test [] = true
every_line test (l ∷ ls) = test l && every_line test ls

-- a line has no limits
abbrev pub no_limits : List Limit → Bool
no_limits [] = true
no_limits (x ∷ xs) = false

abbrev pub is_free : Line → Bool
is_free l = no_limits l.limits

-- a line has an inside exactly where its type is a group, at a level that there is; its type is an octet; a pair that is mandatory has one instance, of four bits;
-- a line for every instance may repeat, since a mark is a line's and not an instance's; and only a group that may be absent has limits
abbrev pub line_tests : ℕ → Line → List Bool
line_tests levels l =
    beq (is_group l.typ) (not (eqb l.inside 0))
    ∷ ltb l.inside levels
    ∷ ltb l.typ 256
    ∷ leb l.inst any_instance
    ∷ (not l.must || ltb l.inst any_instance)
    ∷ (ltb l.inst any_instance || l.many)
    ∷ (is_free l || is_group l.typ)
    ∷ (is_free l || not l.must)
    ∷ []

-- two lines list one pair
unfoldable pub clash : Line → Line → Bool
clash l l' = eqb l.typ l'.typ && (eqb l.inst l'.inst || eqb l.inst any_instance || eqb l'.inst any_instance)

-- no pair is listed twice
unfoldable pub distinct : List Line → Bool
distinct [] = true
distinct (l ∷ ls) = every_line (λ l'. not (clash l l')) ls && distinct ls

-- each line passes, no pair is listed twice, and there is a mark for each line
abbrev pub level_tests : ℕ → List Line → List Bool
level_tests levels ls = every_line (λ l. all (line_tests levels l)) ls ∷ distinct ls ∷ leb (length ls) most_lines ∷ []

unfoldable pub every_level : ℕ → List (List Line) → Bool
every_level levels [] = true
every_level levels (ls ∷ more) = all (level_tests levels ls) && every_level levels more

-- a body is a level that there is
unfoldable pub every_message : ℕ → List Message → Bool
every_message levels [] = true
every_message levels (x ∷ xs) = (not (eqb x.body 0) && ltb x.body levels) && every_message levels xs

-- the inside of a line with limits has no group
unfoldable pub flat_lines : Book → List Line → Bool
flat_lines b ls = every_line (λ l. is_free l || every_line (λ l'. eqb l'.inside 0) (listing b l.inside)) ls

unfoldable pub flat_levels : Book → List (List Line) → Bool
flat_levels b [] = true
flat_levels b (ls ∷ more) = flat_lines b ls && flat_levels b more

unfoldable pub flat : Book → Bool
flat b = flat_levels b b.levels

unfoldable pub sound : Book → Bool
sound b = every_level (length b.levels) b.levels && every_message (length b.levels) b.messages
