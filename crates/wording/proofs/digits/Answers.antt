-- `digits` goes by the powers of ten. Assumes nothing.
use native.Mathlib.Omega.{arith}
use Rattle.wording.proofs.Decimals.{one-digit, two_digits, three-digits, four-digits, five-digits}
use Rattle.wording.proofs.digits.Goals as goal

pub returns-in-0-to-9 : goal.returns-in-0-to-9
returns-in-0-to-9 c = one-digit _ (omega arith)

pub returns-in-10-to-99 : goal.returns-in-10-to-99
returns-in-10-to-99 c = two_digits _ (omega arith) (omega arith)

pub returns-in-100-to-999 : goal.returns-in-100-to-999
returns-in-100-to-999 c = three-digits _ (omega arith) (omega arith)

pub returns-in-1000-to-9999 : goal.returns-in-1000-to-9999
returns-in-1000-to-9999 c = four-digits _ (omega arith) (omega arith)

pub returns-in_default : goal.returns-in_default
returns-in_default c = five-digits _ (omega arith)
