-- The masked copy: zero where the message is covered and the message's own octets elsewhere, so it differs in covered octets at most, and all that
-- holds of such messages holds of it. Assumes nothing.
--     copy-octet, copy-past, copy-front     each octet of what the masked message was laid over, and its part of the message's length
--     masked_open                           the masked message agrees with the message wherever that is not covered
--     masked-verdict, masked-twice          so checks 1 to 12 say the same of it, and it is its own masked message
--     copy_open, copy-is-table              the copy's part of the message's length agrees so with the message, and has its table
use mathlib.Core.Path.{◌≡◌, sym, ◌∙◌}
use mathlib.Core.Bool.{true, false, cond}
use mathlib.Core.List.{List}
use Prim.Native.Nat.{ℕ, ◌≤◌, ◌<◌}
use lib.ListN.{length, take, get_or}
use Rattle.rules.specs.Listings.{Book}
use Rattle.rules.specs.Table.{laid}
use Rattle.rules.specs.Verdicts.{refuses, first, framing_checks, judge_verdict}
use Rattle.rules.specs.Covered.{covered, masked}
use Rattle.rules.specs.Sound.{sound}
use Rattle.rules.proofs.Header.{Passed}
use Rattle.tables.specs.IsTable.{IsTable}
use Rattle.promises.specs.Agreeing.{SameOpen}
use Rattle.verdicts.proofs.Laying.{laid-take, laid_in, laid-past}
use Rattle.promises.proofs.Clearing.{masked-length, masked-at}
use Rattle.promises.proofs.Agreeing.{same-is-table, same-verdict, same-masked}

module _ (b : Book) (fine : sound b ≡ true) (k : ℕ) (m : List ℕ) (pass : refuses (first (framing_checks b k m)) ≡ false) where
  pub masked_open : SameOpen b k m (masked b k m)
  masked_open = record { size = masked-length b fine k m pass; octets = λ j l e. sym (masked-at b fine k m pass j ∙ rw e) }

  pub masked-verdict : (room : ℕ) → judge_verdict b k (masked b k m) room ≡ judge_verdict b k m room
  masked-verdict = same-verdict b fine k m (masked b k m) masked_open

  pub masked-twice : masked b k (masked b k m) ≡ masked b k m
  masked-twice = same-masked b fine k m (masked b k m) masked_open pass

  -- laid over the start of a buffer
  module _ (copy : List ℕ) {left : List ℕ} (is : left ≡ laid (masked b k m) copy) where
    size : length (masked b k m) ≡ length m
    size = masked-length b fine k m pass

    pub copy-octet : (j : ℕ) → j < length m → get_or left j 0 ≡ cond (covered b k m j) 0 (get_or m j 0)
    copy-octet j l = rw is (laid_in (masked b k m) copy j (rw size l) ∙ masked-at b fine k m pass j)

    pub copy-past : (j : ℕ) → length m ≤ j → get_or left j 0 ≡ get_or copy j 0
    copy-past j l = rw is (laid-past (masked b k m) copy j (rw size l))

    pub copy-front : take (length m) left ≡ masked b k m
    copy-front = rw (is, ← size) (laid-take (masked b k m) copy)

    pub copy_open : SameOpen b k m (take (length m) left)
    copy_open = rw copy-front masked_open

    pub copy-is-table : Passed b k m → (t : List ℕ) → IsTable b k m t → IsTable b k (take (length m) left) t
    copy-is-table = same-is-table b fine k m (take (length m) left) copy_open
