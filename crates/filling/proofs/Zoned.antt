-- The records of a flat table, laid at the start of a list, are the zone records that the table was made of. So reading by way of the records as numbers is reading. Assumes nothing.
use Rattle.std.specs.Prelude.{◌≡◌, ℕ, zero, suc, ◌+◌, ◌*◌, ◌<◌, ◌≤◌, List, [], ◌∷◌, ◌++◌, length, get_or, take, drop, set}
use native.Mathlib.Nat.{le_refl}
use native.Mathlib.Omega.{arith}
use mathlib.Core.Path.{refl, sym, ap, ◌∙◌}
use lib.Seq.{sets, sets-eq, take-suc, take-length, length-take-le}
use Rattle.mesh.specs.declared.Zone.{Zone}
use Rattle.layout.specs.declared.Refusal.{Refusal}
use Rattle.layout.specs.Items.{Item}
use Rattle.layout.specs.Rows.{no_zone, zones_of, Lent, room_of}
use Rattle.layout.specs.State.{State}
use Rattle.layout.specs.Read.{Result, Answer, accepted, refused, answer_of, lay, result_of, read_of}
use Rattle.layout.proofs.Exactly.{zones_length}
use Rattle.tables.specs.Places.{words_of}
use Rattle.filling.specs.Found.{Tables, Core, flat_of, blank, core_by, core_of}
use Rattle.facts.proofs.Sets.{sets_append}
use Rattle.filling.proofs.Cored.{zones_are, few_zones}
use Rattle.filling.proofs.Through.{tables_in, with_zones, through_core}
use Rattle.filling.specs.Zones.{zone_at, filled}

pub flat_length : (zs : List Zone) → length (flat_of zs) ≡ length zs * 6
flat_length [] = refl
flat_length (z ∷ zs) = let h = flat_length zs in omega (arith, h)

-- a word further on is a word of what stands behind the first six
behind_words : (z : Zone) (t : List ℕ) (n m : ℕ) → n ≡ suc (suc (suc (suc (suc (suc m))))) → get_or (words_of z ++ t) n 0 ≡ get_or t m 0
behind_words z t n m e = ap (λ (k : ℕ). get_or (words_of z ++ t) k 0) e

next_zone : (z : Zone) (t : List ℕ) (i : ℕ) → zone_at (words_of z ++ t) (suc i) ≡ zone_at t i
next_zone z t i =
    let e₀ = behind_words z t (suc i * 6) (i * 6) (omega arith) in
    let e₁ = behind_words z t (suc i * 6 + 1) (i * 6 + 1) (omega arith) in
    let e₂ = behind_words z t (suc i * 6 + 2) (i * 6 + 2) (omega arith) in
    let e₃ = behind_words z t (suc i * 6 + 3) (i * 6 + 3) (omega arith) in
    let e₄ = behind_words z t (suc i * 6 + 4) (i * 6 + 4) (omega arith) in
    let e₅ = behind_words z t (suc i * 6 + 5) (i * 6 + 5) (omega arith) in
    λ j. record { section = e₀ j; zone = e₁ j; first = e₂ j; last = e₃ j; ztype = e₄ j; element = e₅ j }

zone_of_lem : (zs : List Zone) (rest : List ℕ) (i : ℕ) → i < length zs → zone_at (flat_of zs ++ rest) i ≡ get_or zs i no_zone
zone_of_lem [] rest i h = absurd (omega arith)
zone_of_lem (z ∷ zs) rest zero h = refl
zone_of_lem (z ∷ zs) rest (suc i) h = next_zone z (flat_of zs ++ rest) i ∙ zone_of_lem zs rest i (omega arith)

-- a table that says n records of zs: n records laid
filled_take : (t : List ℕ) (zs old : List Zone) → ((i : ℕ) → i < length zs → zone_at t i ≡ get_or zs i no_zone) → (n : ℕ) → n ≤ length zs → filled t n old ≡ sets old 0 (take n zs)
unfolding filled
filled_take t zs old says zero h = refl
filled_take t zs old says (suc n) h =
    let short : length (take n zs) ≡ n = length-take-le n zs (omega arith) in
    let long : 0 + length (take n zs) ≡ n = omega (arith, short) in
    ap (λ (l : List Zone). set l n (zone_at t n)) (filled_take t zs old says n (omega arith)) ∙ ap (λ (z : Zone). set (sets old 0 (take n zs)) n z) (says n (omega arith))
    ∙ ap (λ (k : ℕ). set (sets old 0 (take n zs)) k (get_or zs n no_zone)) (sym long) ∙ sets_append (take n zs) (get_or zs n no_zone ∷ []) old 0
    ∙ ap (λ (l : List Zone). sets old 0 l) (sym (take-suc zs n no_zone (omega arith)))

-- over any table with room
filled_over : (t : List ℕ) (zs old : List Zone) → length zs * 6 ≤ length t → filled (sets t 0 (flat_of zs)) (length zs) old ≡ sets old 0 zs
filled_over t zs old h =
    let fits : 0 + length (flat_of zs) ≤ length t = omega (arith, flat_length zs) in
    let laid : sets t 0 (flat_of zs) ≡ flat_of zs ++ drop (0 + length (flat_of zs)) t = sets-eq (flat_of zs) t 0 fits in
    filled_take (sets t 0 (flat_of zs)) zs old (λ i k. ap (λ (u : List ℕ). zone_at u i) laid ∙ zone_of_lem zs (drop (0 + length (flat_of zs)) t) i k) (length zs) (le_refl (length zs))
    ∙ ap (λ (l : List Zone). sets old 0 l) (take-length zs)

pub filled_zones : (zs : List Zone) → length zs ≤ 64 → (old : List Zone) → filled (sets blank 0 (flat_of zs)) (length zs) old ≡ sets old 0 zs
filled_zones zs h old = filled_over blank zs old (omega arith)

abbrev with_list_lem : Result → List Zone → Result
with_list_lem r zs =
    record {
      reply = r.reply;
      held = record { mantissas = r.held.mantissas; exponents = r.held.exponents; faces = r.held.faces; cells = r.held.cells; zones = zs };
    }

-- ---- so the records as numbers, laid into the list, make the result that reading has
pub zoned_accepted : (x : State) (is : List Item) (l : Lent) → x.zones ≡ length (zones_of is) → length (zones_of is) ≤ 64
    → with_zones (core_by (accepted x is) (tables_in l)) l.zones ≡ result_of (accepted x is) l
unfolding lay
zoned_accepted x is l e h =
    let t = sets blank 0 (flat_of (zones_of is)) in
    ap (λ (zs : List Zone). with_list_lem (result_of (accepted x is) l) zs) (ap (λ (n : ℕ). filled t n l.zones) e ∙ filled_zones (zones_of is) h l.zones)

pub zoned_refused : (w : Refusal) (k o : ℕ) (l : Lent) → with_zones (core_by (refused w k o) (tables_in l)) l.zones ≡ result_of (refused w k o) l
unfolding filled
zoned_refused w k o l = refl

module _ (s : List ℕ) (l : Lent) where
  through_by : (a : Answer) → answer_of (room_of l) s ≡ a → with_zones (core_by a (tables_in l)) l.zones ≡ result_of a l
  through_by (accepted x is) e =
      zoned_accepted x is l (zones_are (room_of l) s x is e ∙ sym (zones_length is)) (omega (arith, zones_length is, few_zones (room_of l) s x is e))
  through_by (refused w k o) e = zoned_refused w k o l

  -- reading by way of the records as numbers is reading
  pub through_is : through_core s l ≡ read_of s l
  unfolding core_of read_of
  through_is = through_by (answer_of (room_of l) s) refl

-- `read_flat`: with its records laid into any list of that length it is reading
pub flat_is_read : (s : List ℕ) (n : ℕ) (t : Tables) (c : Core) → c ≡ core_of s n t → (zs : List Zone) → length zs ≡ n
    → with_zones c zs ≡ read_of s (record { mantissas = t.mantissas; exponents = t.exponents; faces = t.faces; cells = t.cells; zones = zs })
flat_is_read s n t c e zs q =
    ap (λ y. with_zones y zs) (e ∙ ap (λ m. core_of s m t) (sym q)) ∙ through_is s (record { mantissas = t.mantissas; exponents = t.exponents; faces = t.faces; cells = t.cells; zones = zs })
