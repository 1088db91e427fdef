-- Closed cases of the functions that only our own crates call: what a call that meets its contract answers and leaves on an input, and what a wrong program would have. Assumes nothing.
use Prim.Native.Nat.{ℕ, suc, ◌+◌, min}
use native.Mathlib.Omega.{arith}
use mathlib.Core.Path.{◌≡◌, refl, ◌∙◌, ap}
use mathlib.Core.List.{List, [], ◌∷◌, ◌++◌}
use lib.IntN.{negsuc}
use lib.ListN.{length, drop}
use lib.Seq.{sets}
use Rattle.facts.specs.Text.{bytes}
use Rattle.figures.specs.Figures.{figure, figures_on, figures}
use Rattle.figures.specs.Signed.{decimal_text}
use Rattle.putting.specs.Putting.{most}
use Rattle.putting.proofs.put.put_byte.Reads as byte
use Rattle.putting.proofs.put.put_text.Reads as text
use Rattle.putting.proofs.number.put_decimal.Reads as decimal
use Rattle.putting.proofs.number.put_hex.Reads as hex
use Rattle.putting.proofs.worded.lay_word.Reads as word
use Rattle.putting.proofs.signed.lay_signed.Reads as signed

abbrev lent : List ℕ
lent = bytes "........"

-- `put_byte`: a byte past the end not counted
put_byte :
    ((κ : _) (a : _) (r : _) (x : _) → byte.Post κ a r x → a.0.now ≡ lent → ◌≡◌ {A = ℕ} a.1.0 8 → ◌≡◌ {A = ℕ} r 9 × (x.0.now ≡ lent))
    × (min (8 + 1) (length lent) ≡ 8)
put_byte = (λ κ a r x p old at. (p.place ∙ rw at, p.laid ∙ rw (old, at)), refl)

-- `put_text`: a text that has not room for all of it left out
put_text :
    ((κ : _) (a : _) (r : _) (x : _) → text.Post κ a r x → a.0.now ≡ lent → ◌≡◌ {A = ℕ} a.1.0 6 → a.1.1.0.now ≡ bytes "mesh" → ◌≡◌ {A = ℕ} r 10 × (x.0.now ≡ bytes "......me"))
    × (sets lent 6 [] ≡ bytes "........")
put_text = (λ κ a r x p old at t. (p.place ∙ rw (at, t), p.laid ∙ rw (old, at, t)), refl)

-- `put_decimal`: the last figures kept where the first ones belong
put_decimal :
    ((κ : _) (a : _) (r : _) (x : _) → decimal.Post κ a r x → a.0.now ≡ lent → ◌≡◌ {A = ℕ} a.1.0 6 → ◌≡◌ {A = ℕ} a.1.1.0 125
    → ◌≡◌ {A = ℕ} r 9 × (x.0.now ≡ bytes "......12"))
    × (sets lent 6 (drop 1 (figures 10 125)) ≡ bytes "......25")
unfolding figure figures_on figures
put_decimal = (λ κ a r x p old at n. (p.place ∙ rw (at, n), p.laid ∙ rw (old, at, n)), refl)

-- `put_hex`: in decimal
put_hex :
    ((κ : _) (a : _) (r : _) (x : _) → hex.Post κ a r x → a.0.now ≡ lent → ◌≡◌ {A = ℕ} a.1.0 2 → ◌≡◌ {A = ℕ} a.1.1.0 125
    → ◌≡◌ {A = ℕ} r 4 × (x.0.now ≡ bytes "..7d...."))
    × (sets lent 2 (figures 10 125) ≡ bytes "..125...")
unfolding figure figures_on figures
put_hex = (λ κ a r x p old at n. (p.place ∙ rw (at, n), p.laid ∙ rw (old, at, n)), refl)

-- `lay_word`: a blank more counted
lay_word :
    ((κ : _) (a : _) (r : _) (x : _) → word.Post κ a r x → a.0.now ≡ lent → ◌≡◌ {A = ℕ} a.1.0 2 → ◌≡◌ {A = ℕ} a.1.1.0 40 → ◌≡◌ {A = ℕ} a.1.1.1.0 171
    → ◌≡◌ {A = ℕ} r 5 × (x.0.now ≡ bytes "..(ab..."))
    × (min (2 + length (40 ∷ figures 16 171) + 1) most ≡ 6)
unfolding figure figures_on figures
lay_word = (
  λ κ a r x p old at lead n.
      let e : ◌≡◌ {A = ℕ} r 5 = p.place ∙ (λ i. min (at i + suc (length (figures 16 (n i)))) most) in
      (e, p.laid (omega (arith, e, p.place, ap length old)) ∙ (λ i. sets (old i) (at i) (lead i ∷ figures 16 (n i)))),
  refl,
)

-- `lay_signed`: the sign behind the figures
lay_signed :
    ((κ : _) (a : _) (r : _) (x : _) → signed.Post κ a r x → a.0.now ≡ lent → ◌≡◌ {A = ℕ} a.1.0 1 → ◌≡◌ {A = ℕ} a.1.1.0 101 → a.1.1.1.0 ≡ negsuc 24
    → ◌≡◌ {A = ℕ} r 5 × (x.0.now ≡ bytes ".e-25..."))
    × (sets lent 1 (101 ∷ (figures 10 25 ++ (45 ∷ []))) ≡ bytes ".e25-...")
unfolding figure figures_on figures decimal_text
lay_signed = (
  λ κ a r x p old at lead z.
      let e : ◌≡◌ {A = ℕ} r 5 = p.place ∙ (λ i. min (at i + length (lead i ∷ decimal_text (z i))) most) in
      (e, p.laid (omega (arith, e, p.place, ap length old)) ∙ (λ i. sets (old i) (at i) (lead i ∷ decimal_text (z i)))),
  refl,
)
