-- The zone records that were read, as words. Assumes nothing.
use Prim.Native.Nat.{ℕ, ◌+◌, ◌*◌, ◌/◌, ◌≤◌}
use native.Mathlib.Omega.{arith}
use mathlib.Core.Path.{◌≡◌, refl, sym, ap, ◌∙◌}
use mathlib.Core.List.{List}
use lib.ListN.{length, take, drop, replicate, length-replicate}
use lib.Seq.{sets, sets-eq, take-append_seam, length-sets, length-take-le}
use Rattle.mesh.specs.declared.Zone.{Zone}
use Rattle.layout.specs.Rows.{zones_of, no_zone}
use Rattle.layout.specs.Replies.{shown}
use Rattle.layout.specs.Read.{Answer, Result, accepted, refused, answer_of, read_of}
use Rattle.layout.proofs.Exactly.{zones_length}
use Rattle.filling.specs.Found.{Tables, Core, told, flat_of, blank, room_with, core_by, core_of}
use Rattle.filling.specs.Zones.{filled}
use Rattle.filling.proofs.Cored.{zones_are}
use Rattle.filling.proofs.Few.{told_only, core_few, core_room}
use Rattle.filling.proofs.Zoned.{flat_length, filled_zones}
use Rattle.filling.proofs.Through.{with_zones}
use Rattle.filling.proofs.Zoned.{flat_is_read}
use Rattle.answers.specs.Words.{read_words}
use Rattle.boundary.specs.Flat.{Left, with_list, left_by, read_left}

-- what was laid at the start is the start
taken_back : {A : Type 0} (xs old : List A) → length xs ≤ length old → take (length xs) (sets old 0 xs) ≡ xs
taken_back xs old h = ap (λ l. take (length xs) l) (sets-eq xs old 0 (omega (arith, h))) ∙ take-append_seam xs (drop (0 + length xs) old)

records_laid : (zs old : List Zone) → length zs ≤ 64 → length zs ≤ length old → flat_of (take (length zs) (filled (sets blank 0 (flat_of zs)) (length zs) old)) ≡ flat_of zs
records_laid zs old few fits = ap (λ l. flat_of (take (length zs) l)) (filled_zones zs few old) ∙ ap flat_of (taken_back zs old fits)

words_laid : (zs : List Zone) → length zs ≤ 64 → take (6 * length zs) (sets blank 0 (flat_of zs)) ≡ flat_of zs
words_laid zs few =
    let long : 6 * length zs ≡ length (flat_of zs) = omega (arith, flat_length zs) in
    ap (λ n. take n (sets blank 0 (flat_of zs))) long ∙ taken_back (flat_of zs) blank (omega (arith, flat_length zs))

module _ (s : List ℕ) (n : ℕ) (t : Tables) where
  words_by : (a : Answer) → answer_of (room_with t n) s ≡ a → (core_by a t).found.zones ≤ 64 → (core_by a t).found.zones ≤ n → (old : List Zone) → length old ≡ n
      → flat_of (take (shown (core_by a t).found.reply).zones (filled (core_by a t).found.flat (core_by a t).found.zones old)) ≡ take (6 * (core_by a t).found.zones) (core_by a t).found.flat
  words_by (accepted x is) e few fits old q =
      let zs = zones_of is in
      let p : x.zones ≡ length zs = zones_are (room_with t n) s x is e ∙ sym (zones_length is) in
      let flat = sets blank 0 (flat_of zs) in
      ap (λ k. flat_of (take k (filled flat k old))) p ∙ records_laid zs old (omega (arith, p, few)) (omega (arith, p, fits, q)) ∙ sym (words_laid zs (omega (arith, p, few))) ∙ ap (λ k. take (6 * k) flat) (sym p)
  words_by (refused w k o) e few fits old q = refl

  -- the words of the records that reading leaves in a list of n
  pub words_of : (old : List Zone) → length old ≡ n
      → flat_of (take (shown (core_of s n t).found.reply).zones (with_zones (core_of s n t) old).held.zones) ≡ take (6 * (core_of s n t).found.zones) (core_of s n t).found.flat
  unfolding core_of
  words_of old q = words_by (answer_of (room_with t n) s) refl (core_few s n t) (core_room s n t) old q

flat_long : (a : Answer) (t : Tables) → length (core_by a t).found.flat ≡ 384
flat_long (accepted x is) t = length-sets blank 0 (flat_of (zones_of is))
flat_long (refused w k o) t = refl

-- ---- of the covered call
module _ (s : List ℕ) (n : ℕ) (t : Tables) (c : Core) (e : told c ≡ told (core_of s n t)) where
  is_core : c ≡ core_of s n t
  is_core = told_only c (core_of s n t) e

  pub few_zones : c.found.zones ≤ 64
  few_zones = omega (arith, ap (λ (y : Core). y.found.zones) is_core, core_few s n t)

  pub words_there : 6 * c.found.zones ≤ length c.found.flat
  unfolding core_of
  words_there = omega (arith, few_zones, ap (λ (y : Core). length y.found.flat) is_core, flat_long (answer_of (room_with t n) s) t)

  pub words_long : 6 * c.found.zones ≡ length (take (6 * c.found.zones) c.found.flat)
  words_long = sym (length-take-le (6 * c.found.zones) c.found.flat words_there)

-- what the call puts together is what it has to leave
pub left_of_lem : (s : List ℕ) (t : Tables) (words answer : List ℕ) (c : Core) → told c ≡ told (core_of s (length words / 6) t)
    → (m : ℕ) (zs ans : List ℕ) → zs ≡ sets words 0 (take (6 * c.found.zones) c.found.flat) → (m ≡ (shown c.found.reply).number) × (ans ≡ sets answer 0 (read_words (shown c.found.reply)))
    → ◌≡◌ {A = Left} (record { number = m; answer = ans; held = c.held; zones = zs }) (read_left s t words answer)
unfolding read_left
left_of_lem s t words answer c e m zs ans laid said =
    let n = length words / 6 in
    let old = replicate n no_zone in
    let same : c ≡ core_of s n t = is_core s n t c e in
    let is_read : with_zones c old ≡ read_of s (with_list t words) = flat_is_read s n t c same old (length-replicate n no_zone) in
    let z : zs ≡ sets words 0 (flat_of (take (shown c.found.reply).zones (with_zones c old).held.zones)) =
    laid ∙ ap (λ l. sets words 0 l) (ap (λ (y : Core). take (6 * y.found.zones) y.found.flat) same ∙ sym (words_of s n t old (length-replicate n no_zone))
    ∙ ap (λ (y : Core). flat_of (take (shown y.found.reply).zones (with_zones y old).held.zones)) (sym same)) in
    (λ i. record { number = said.0 i; answer = said.1 i; held = c.held; zones = z i }) ∙ ap (λ (r : Result). left_by r words answer) is_read
