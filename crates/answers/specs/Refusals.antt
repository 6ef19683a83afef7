-- What each refusal says in five numbers: its check's number, and a reply cause where it has one. Assumes nothing.
use Rattle.std.specs.Prelude.{ℕ, Result, Ok, Err}
use Rattle.rules.specs.Verdicts.{accepted, refused, refused_at, invalid_length, mandatory_missing}
use Rattle.rules.specs.declared.Verdict.{Verdict}
use Rattle.rules.specs.declared.Sent.{Sent}
use Rattle.rules.specs.declared.Count.{Count}
use Rattle.answers.specs.declared.Refusal.{Refusal}
use Rattle.answers.specs.declared.Refusal.TheVariants.{Kind, Size, Version, Header, Piggybacked, Length, MessageType, OtherKind, Teid, Cut, Table, Short, Missing, Copy, Given, Room, Misread, State}

abbrev pub verdict_of : Refusal → Verdict
verdict_of Kind = refused 1 0
verdict_of Size = refused 2 0
verdict_of Version = refused 3 0
verdict_of Header = refused 4 0
verdict_of Piggybacked = refused 5 0
verdict_of Length = refused 6 invalid_length
verdict_of MessageType = refused 7 0
verdict_of OtherKind = refused 21 0
verdict_of Teid = refused 8 0
verdict_of (Cut place) = refused_at 9 invalid_length place 0 0
verdict_of Table = refused 10 0
verdict_of (Short place typ inst) = refused_at 11 invalid_length place typ inst
verdict_of (Missing place typ inst) = refused_at 12 mandatory_missing place typ inst
verdict_of Copy = refused 13 0
verdict_of Given = refused 14 0
verdict_of Room = refused 15 0
verdict_of Misread = refused 16 0
verdict_of State = refused 17 0

-- what an outcome says: acceptance, or what refuses
abbrev pub told : Result (Unit {0}) Refusal → Verdict
told (Ok _) = accepted
told (Err r) = verdict_of r

abbrev pub outcome : Result (Unit {0}) Verdict → Verdict
outcome (Ok _) = accepted
outcome (Err v) = v

-- what is answered where a message is written: how many octets, or what refuses
abbrev pub sent_of : Result ℕ Verdict → Sent
sent_of (Ok n) = record { verdict = accepted; length = n }
sent_of (Err v) = record { verdict = v; length = 0 }

-- what is answered where rows are counted: the same of rows
abbrev pub count_of : Result ℕ Verdict → Count
count_of r = record { verdict = (sent_of r).verdict; rows = (sent_of r).length }
