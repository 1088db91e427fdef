-- No second answer and no second content of `out` meets the contracts. Assumes nothing.
use Prim.Native.Nat.{ℕ, ◌+◌}
use mathlib.Core.Path.{◌≡◌, sym, ◌∙◌}
use mathlib.Core.List.{List}
use borrow.Author.Tests.{leb-true, leb-false}
use lib.Dec.{leb}
use Rattle.facts.proofs.Branch.{split}
use lib.ListN.{length}
use Rattle.facts.specs.OnlyLeft.{OnlyLeft}
use Rattle.putting.specs.Putting.{Put, Whole}
use Rattle.putting.proofs.put.put_byte.Reads as put_byte
use Rattle.putting.proofs.put.put_text.Reads as put-text
use Rattle.putting.proofs.number.put_decimal.Reads as put-decimal
use Rattle.putting.proofs.number.put_hex.Reads as put-hex
use Rattle.putting.proofs.worded.lay_word.Reads as lay-word
use Rattle.putting.proofs.signed.lay_signed.Reads as lay-signed

put_only : {old : List ℕ} {at : ℕ} {bytes new new' : List ℕ} {r r' : ℕ} → Put old at bytes new r → Put old at bytes new' r' → (r ≡ r') × (new ≡ new')
put_only p q = (p.place ∙ sym q.place, p.laid ∙ sym q.laid)

pub put_byte_only : OnlyLeft (λ κ x. x.0.now) put_byte.Post
put_byte_only κ a r r' x x' p q = put_only p q

pub put_text_only : OnlyLeft (λ κ x. x.0.now) put-text.Post
put_text_only κ a r r' x x' p q = put_only p q

pub put_decimal_only : OnlyLeft (λ κ x. x.0.now) put-decimal.Post
put_decimal_only κ a r r' x x' p q = put_only p q

pub put_hex_only : OnlyLeft (λ κ x. x.0.now) put-hex.Post
put_hex_only κ a r r' x x' p q = put_only p q

-- ---- all or none
whole_only : {old : List ℕ} {at : ℕ} {bytes new new' : List ℕ} {r r' : ℕ} → Whole old at bytes new r → Whole old at bytes new' r' → (r ≡ r') × (new ≡ new')
whole_only {old = old} {at = at} {bytes = bytes} p q = (
  p.place ∙ sym q.place,
  split (leb (at + length bytes) (length old)) (λ h. p.laid (leb-true _ _ h) ∙ sym (q.laid (leb-true _ _ h))) (λ h. p.none (leb-false _ _ h) ∙ sym (q.none (leb-false _ _ h))),
)

pub lay_word_only : OnlyLeft (λ κ x. x.0.now) lay-word.Post
lay_word_only κ a r r' x x' p q = whole_only p q

pub lay_signed_only : OnlyLeft (λ κ x. x.0.now) lay-signed.Post
lay_signed_only κ a r r' x x' p q = whole_only p q
