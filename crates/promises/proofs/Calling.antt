-- The one call looks at no covered octet, and its copy handed to it again says the same: of its two halves (`rules`, `Calls`) that is
-- known. Each contract is equations, so what holds of the definitions holds of any answers that it allows. Assumes nothing.
--     call_same, call_table-same, call_octets-same, call_copy-same     two messages that agree where the first is open
--     two-called, two-stored, two-octets                               the same on the contracts
--     called_open, desk-part                                           the copy that was made agrees so; and what the desk's lookup answers without the right
use mathlib.Core.Path.{◌≡◌, refl, sym, ap, ◌∙◌}
use mathlib.Core.Bool.{Bool, true, false}
use mathlib.Core.List.{List}
use Prim.Native.Nat.{ℕ}
use lib.ListN.{length, take}
use denote.Ref.{Bor}
use Rattle.rules.specs.Listings.{Book, book}
use Rattle.rules.specs.Sound.{sound}
use Rattle.rules.specs.Values.{table_rows, row_span, desk_span}
use Rattle.rules.specs.Octets.{five_laid, table_room, call_octets}
use Rattle.rules.specs.Verdicts.{refuses, room_check, mask_verdict, call_verdict, call_table}
use Rattle.rules.specs.Covered.{call_copy}
use Rattle.rules.specs.Answers.{Called, CalledStored, CalledOctets}
use Rattle.rules.specs.declared.Verdict.{Verdict}
use Rattle.rules.proofs.Book.{book-sound}
use Rattle.rules.proofs.Calls.{call_masked, call_judged, copy-stays, call-copy}
use Rattle.verdicts.specs.Conditions.{Copies}
use Rattle.promises.specs.Agreeing.{SameOpen, desk_place, desk_octets, AtDesk}
use Rattle.promises.proofs.Left.{copied, copied-framed}
use Rattle.promises.proofs.Copies.{copy_open}
use Rattle.promises.proofs.Agreeing.{same-verdict, same-mask-verdict, same_copy, same_reading, same_taken, same-is-of}

module _ (b : Book) (fine : sound b ≡ true) (k : ℕ) (m n : List ℕ) (s : SameOpen b k m n) where
  pub call_same : (octets room : ℕ) → call_verdict b k n octets room ≡ call_verdict b k m octets room
  call_same octets room = go (refuses (mask_verdict b k m octets)) refl
    where
      same : mask_verdict b k n octets ≡ mask_verdict b k m octets
      same = same-mask-verdict b fine k m n s octets

      go : (c : Bool) → refuses (mask_verdict b k m octets) ≡ c → call_verdict b k n octets room ≡ call_verdict b k m octets room
      go true e = call_masked b k n octets room (rw same e) ∙ same ∙ sym (call_masked b k m octets room e)
      go false e = call_judged b k n octets room (rw same e) ∙ same-verdict b fine k m n s room ∙ sym (call_judged b k m octets room e)

  pub call_table-same : (octets : ℕ) (table : List ℕ) → call_table b k n octets table ≡ call_table b k m octets table
  unfolding call_table
  call_table-same octets table = rw (call_same octets (length table), same_taken b fine k m n s, (same_reading b fine k m n s).typ)

  -- lent as octets
  pub call_octets-same : (octets : ℕ) (table : List ℕ) → call_octets b k n octets table ≡ call_octets b k m octets table
  unfolding call_octets
  call_octets-same octets table = rw (call_same octets (table_room table), same_taken b fine k m n s, (same_reading b fine k m n s).typ)

  pub call_copy-same : (room : ℕ) (copy : List ℕ) → call_copy b k n room copy ≡ call_copy b k m room copy
  call_copy-same room copy = go (refuses (room_check b k m room)) refl
    where
      same : room_check b k n room ≡ room_check b k m room
      same = rw (same_taken b fine k m n s)

      go : (c : Bool) → refuses (room_check b k m room) ≡ c → call_copy b k n room copy ≡ call_copy b k m room copy
      go true e = copy-stays b k n room copy (rw same e) ∙ sym (copy-stays b k m room copy e)
      go false e = call-copy b k n room copy (rw same e) ∙ same_copy b fine k m n s copy ∙ sym (call-copy b k m room copy e)

-- ---- the contracts

-- two things that equal two equal things
across : {A : Type 0} {x y u v : A} → u ≡ x → v ≡ y → y ≡ x → v ≡ u
across e f g = f ∙ g ∙ sym e

module _ {k : ℕ} {m n : List ℕ} (s : SameOpen book k m n) where
  same : (octets room : ℕ) → call_verdict book k n octets room ≡ call_verdict book k m octets room
  same = call_same book book-sound k m n s

  pub two-called : {t c : List ℕ} {v w : Verdict} {t₁ t₂ c₁ c₂ : List ℕ} → Called k m t c v t₁ c₁ → Called k n t c w t₂ c₂ → (w ≡ v) × (t₂ ≡ t₁) × (c₂ ≡ c₁)
  two-called {t} {c} x y = (
    across x.answers y.answers (same (length c) (length t)),
    across x.table_left y.table_left (call_table-same book book-sound k m n s (length c) t),
    across x.copy_left y.copy_left (call_copy-same book book-sound k m n s (length t) c),
  )

  pub two-stored : {t c : List ℕ} {v w : Verdict} {t₁ t₂ c₁ c₂ : List ℕ} → CalledStored k m t c v t₁ c₁ → CalledStored k n t c w t₂ c₂ → (w ≡ v) × (t₂ ≡ t₁) × (c₂ ≡ c₁)
  two-stored {t} {c} x y = (
    across x.answers y.answers (same (length c) (table_room t)),
    across x.table_left y.table_left (call_octets-same book book-sound k m n s (length c) t),
    across x.copy_left y.copy_left (call_copy-same book book-sound k m n s (table_room t) c),
  )

  pub two-octets : {t c f : List ℕ} {d e : ℕ} {t₁ t₂ c₁ c₂ f₁ f₂ : List ℕ} → CalledOctets k m t c f d t₁ c₁ f₁ → CalledOctets k n t c f e t₂ c₂ f₂
      → (e ≡ d) × (t₂ ≡ t₁) × (c₂ ≡ c₁) × (f₂ ≡ f₁)
  two-octets {t} {c} {f} x y = (
    across x.answers y.answers (ap (λ (v : Verdict). v.code) (same (length c) (table_room t))),
    across x.table_left y.table_left (call_octets-same book book-sound k m n s (length c) t),
    across x.copy_left y.copy_left (call_copy-same book book-sound k m n s (table_room t) c),
    across x.five_left y.five_left (ap (λ (v : Verdict). five_laid v f) (same (length c) (table_room t))),
  )

-- the part of the copy that has the message's length, where a copy is made
pub called_open : (k : ℕ) (m : List ℕ) (room : ℕ) (c : List ℕ) {l : List ℕ} → Copies (call_verdict book k m (length c) room) → l ≡ call_copy book k m room c → SameOpen book k m (take (length m) l)
called_open k m room c made e =
    copy_open book book-sound k m (copied-framed book book-sound k m room c made) c (e ∙ copied book book-sound k m room c made)

-- ---- what the desk's lookup answers without the right

module _ (b : Book) (fine : sound b ≡ true) (k : ℕ) (copy table : List ℕ) (row : ℕ) where
  module _ (m n : List ℕ) (s : SameOpen b k m n) where
    same-table-left : call_table b k n (length copy) table ≡ call_table b k m (length copy) table
    same-table-left = call_table-same b fine k m n s (length copy) table

    desk-place : desk_place b k copy table row n ≡ desk_place b k copy table row m
    unfolding desk_span row_span table_rows
    desk-place = rw (s.size, call_copy-same b fine k m n s (length table) copy, same-table-left, same-is-of b fine k m n s (call_table b k m (length copy) table))

    desk-octets : desk_octets b k copy table row n ≡ desk_octets b k copy table row m
    desk-octets = rw (desk-place, call_copy-same b fine k m n s (length table) copy)

  pub desk-part : {m n m_copy n_copy m_part n_part : Bor (List ℕ)} → AtDesk b k copy table row m m_copy m_part → AtDesk b k copy table row n n_copy n_part
      → SameOpen b k m.now n.now → n_part.now ≡ m_part.now
  desk-part {m} {n} c d s =
      (rw d.copied_is at d.answered.octets) ∙ desk-octets m.now n.now s ∙ sym (rw c.copied_is at c.answered.octets)
