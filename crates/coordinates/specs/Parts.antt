-- What the functions inside this crate owe one another. Nothing here has to be believed: the public contracts do not cite it. Assumes nothing.
use Rattle.std.specs.Prelude.{ℕ, ◌+◌, ◌*◌, ◌%◌, ◌^◌, ◌≤◌, ◌<◌, ◌≡◌, List, [], ◌∷◌, Bool, true, false, length, drop, ltb, eqb, ℤ, Option, Some, None}
use Rattle.std.specs.Int.Signed.{mag}
use Rattle.sizes.specs.Sizes.{coordinate_bytes, coordinate_digits}
use Rattle.facts.specs.declared.Taken.{Taken}
use Rattle.coordinates.specs.declared.sign.Sign.{Sign}
use Rattle.coordinates.specs.declared.scan.Scan.{Scan}
use Rattle.digits.specs.declared.group.Group.{Group}
use Rattle.decimals.specs.declared.decimal.Cut.{Cut}
use Rattle.digits.specs.Digits.{Digits}
use Rattle.decimals.specs.Coordinate.{signed, sign_in}
use Rattle.decimals.specs.Lead.{Leading, leading}

-- does the list begin with this byte
unfoldable pub starts : ℕ → List ℕ → Bool
starts b [] = false
starts b (c ∷ w) = eqb c b

-- the sign at a place of the word: the next place stands for the bytes from there on
pub record SignAt (w : List ℕ) (at : ℕ) (r : Sign) : Type 0 where
  pub says : signed r.negative (drop r.next w) ≡ sign_in (drop at w)
  pub within : r.next ≤ length w

-- a power that was read at a place of the word: again the next place stands for the bytes from there on
pub record PowerAt (w : List ℕ) (r : Taken (Option ℤ)) (l : Leading) : Type 0 where
  pub says : leading r.value (drop r.next w) ≡ l
  pub within : r.next ≤ length w

-- d is core · 10 ^ zeros with more than 18 digits in core, of which the last is not 0
pub record Wide (d : ℕ) : Type 0 where
  pub core : ℕ
  pub zeros : ℕ
  pub whole : d ≡ core * 10 ^ zeros
  pub ends : core % 10 ≡ 0 → ⊥
  pub many : 10 ^ coordinate_digits ≤ core

-- the state stands for the number v that its digits write
pub record Stands (x : Scan) (v : ℕ) : Type 0 where
  pub less : x.m < 10 ^ 18
  pub room : x.m < 10 ^ 17 → x.tail ≡ 0
  pub exact : x.over ≡ false → v ≡ x.m * 10 ^ x.tail
  pub wide : x.over ≡ true → Wide v

-- one more digit
abbrev pub scan : ℕ → ℕ → Bool → ℕ → ℕ → Scan
scan m tail over count next = record { m = m; tail = tail; over = over; count = count; next = next }

unfoldable pub grown : Scan → ℕ → Scan
grown x d =
    elim (ltb x.m (10 ^ 17)) [
      | true ↦ scan (x.m * 10 + d) x.tail x.over (x.count + 1) (x.next + 1)
      | false ↦
          elim (eqb d 0) [
            | true ↦ scan x.m (x.tail + 1) x.over (x.count + 1) (x.next + 1)
            | false ↦ scan x.m x.tail true (x.count + 1) (x.next + 1)
          ]
    ]

-- some digits more, where there is room for all of them
abbrev pub joined : Scan → Group → Scan
joined x g = scan (x.m * 10 ^ g.count + g.value) x.tail x.over (x.count + g.count) (x.next + g.count)

-- with so few digits in m there is room for eight more
pub record Roomy (x : Scan) (g : Group) : Type 0 where
  pub less : x.m < 10 ^ 10
  pub few : g.count ≤ 8
  pub small : g.value < 10 ^ g.count
  pub within : x.next ≤ coordinate_bytes
  pub count : x.count ≤ x.next

-- a state at a place of a word
pub record Fair (w : List ℕ) (x : Scan) : Type 0 where
  pub short : length w ≤ coordinate_bytes
  pub within : x.next ≤ length w
  pub tail : x.tail ≤ x.next
  pub count : x.count ≤ x.next

-- the state shows these digits
pub record Shows (w : List ℕ) (r : Scan) (d : Digits) : Type 0 where
  pub value : Stands r d.value
  pub count : r.count ≡ d.count
  pub rest : drop r.next w ≡ d.rest

-- from x on digits were read: those that d gives behind a number v, if x stands for v
pub record Scanned (w : List ℕ) (x r : Scan) (d : ℕ → Digits) : Type 0 where
  pub fair : Fair w r
  pub shows : (v : ℕ) → Stands x v → Shows w r (d v)

-- what is asked of the state at the end
pub record Ready (x : Scan) : Type 0 where
  pub less : x.m < 10 ^ 18
  pub tail : x.tail ≤ 64
  pub count : x.count ≤ 64

-- a number below n, where it is one
abbrev pub Below : ℕ → Option ℕ → Type 0
Below n (Some k) = k < n
Below n None = Unit

-- a power of at most three digits
abbrev pub Mild : Option ℤ → Type 0
Mild (Some k) = mag k < 1000
Mild None = Unit

-- d without the zeros at its end
pub record CutOf (d : ℕ) (c : Cut) : Type 0 where
  pub whole : d ≡ c.m * 10 ^ c.zeros
  pub ends : c.m % 10 ≡ 0 → ⊥
  pub less : c.m < 10 ^ 18
  pub few : c.zeros < 82
