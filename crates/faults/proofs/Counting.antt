-- The sides of each cell: what one more does to each count, and what the pass over the faces holds. Assumes nothing.
-- the three ways of one more
use Prim.Native.Nat.{ℕ, ◌+◌, ◌-◌, ◌*◌, ◌<◌, ◌≤◌}
use native.Mathlib.Omega.{arith}
use mathlib.Core.Path.{◌≡◌, refl, sym, ap, ◌∙◌}
use mathlib.Core.Bool.{Bool, true, false, ◌&&◌}
use mathlib.Core.List.{List, ◌++◌}
use borrow.Author.Tests.{eqb-true, eqb-false, ltb-true, ltb-false, ne_eqb, eq-eqb, lt-ltb, le-ltb, leb-true, le-leb}
use lib.Dec.{eqb, ltb, leb}
use lib.ListN.{length, get_or, set, drop, replicate, length-set, length-append, length-replicate, get_or-replicate, get_or-append}
use lib.Seq.{get_or-set_same, get_or-set_other, ext_get_or, get_or-append-add, drop-set-lt, drop_at, get_or-drop}
use Rattle.facts.proofs.Branch.{split, differ}
use Rattle.facts.proofs.Decides.{and_split, and_join}
use Rattle.mesh.specs.declared.Face.{Face}
use Rattle.mesh.specs.Rows.{face_at}
use Rattle.faults.specs.Over.{listed}
use Rattle.faults.specs.Sides.{one, sides_naming, count_over}
use Rattle.faults.proofs.Sides.{one_most, sides_naming_is, count_over_most}
use Rattle.faults.proofs.Over.{sum_over_more, sum_over_none, listed_length, listed_at}
use Rattle.faults.specs.Counts.{bump, Tallying}

module _ (n x : ℕ) (l : List ℕ) where
  pub bump_zero : x ≡ 0 → l ≡ bump n x l
  unfolding bump
  bump_zero e = rw (eq-eqb x 0 e, bump)

  pub bump_above : (x ≡ 0 → ⊥) → n < x → l ≡ bump n x l
  unfolding bump
  bump_above e h = rw (ne_eqb x 0 e, lt-ltb n x h, bump)

  pub bump_cell : (x ≡ 0 → ⊥) → x ≤ n → set l (x - 1) (get_or l (x - 1) 0 + 1) ≡ bump n x l
  unfolding bump
  bump_cell e h = rw (ne_eqb x 0 e, le-ltb n x h, bump)

  abbrev is_cell : Bool
  is_cell = leb 1 x && leb x n

  pub cell_within : is_cell ≡ true → (1 ≤ x) × (x ≤ n)
  cell_within t = let s = and_split (leb 1 x) (leb x n) t in (leb-true 1 x s.0, leb-true x n s.1)

  pub bump_there : is_cell ≡ true → set l (x - 1) (get_or l (x - 1) 0 + 1) ≡ bump n x l
  bump_there t = let w = cell_within t in bump_cell (λ z. omega (arith, w.0)) w.1

  pub bump_none : is_cell ≡ false → l ≡ bump n x l
  bump_none t =
      split (eqb x 0)
      (λ u. bump_zero (eqb-true x 0 u))
      (λ u. let d = eqb-false x 0 u in
      split (ltb n x)
      (λ v. bump_above d (ltb-true n x v))
      (λ v. differ is_cell (and_join (le-leb 1 x (omega arith)) (le-leb x n (ltb-false n x v))) t))

  -- something of the bumped list, by the three ways
  by_way : (P : List ℕ → Type 0) → (x ≡ 0 → P l) → (n < x → P l) → ((x ≡ 0 → ⊥) → x ≤ n → P (set l (x - 1) (get_or l (x - 1) 0 + 1))) → P (bump n x l)
  by_way P a b c =
      split (eqb x 0)
      (λ t. let e = eqb-true x 0 t in rw (← bump_zero e) (a e))
      (λ t. let e = eqb-false x 0 t in
      split (ltb n x)
      (λ u. let h = ltb-true n x u in rw (← bump_above e h) (b h))
      (λ u. let h = ltb-false n x u in rw (← bump_cell e h) (c e h)))

  pub bump_length : length (bump n x l) ≡ length l
  bump_length = by_way (λ (m : List ℕ). length m ≡ length l) (λ _. refl) (λ _. refl) (λ _ _. length-set l (x - 1) _)

  pub bump_rest : drop n (bump n x l) ≡ drop n l
  bump_rest = by_way (λ (m : List ℕ). drop n m ≡ drop n l) (λ _. refl) (λ _. refl) (λ e h. drop-set-lt n l (x - 1) _ (below e h))
    where
      below : (x ≡ 0 → ⊥) → x ≤ n → x - 1 < n
      below e h = omega arith

  pub bump_at : (i : ℕ) → n ≤ length l → i < n → get_or (bump n x l) i 0 ≡ get_or l i 0 + one (eqb x (i + 1))
  bump_at i k h =
      by_way (λ (m : List ℕ). get_or m i 0 ≡ get_or l i 0 + one (eqb x (i + 1)))
      (λ e. rw (ne_eqb x (i + 1) (λ q. omega arith)) (omega arith))
      (λ e. rw (ne_eqb x (i + 1) (λ q. omega arith)) (omega arith))
      (λ e u. split (eqb x (i + 1))
      (λ t. let q = eqb-true x (i + 1) t in same q t)
      (λ t. let q = eqb-false x (i + 1) t in rw (t, get_or-set_other l (x - 1) i (get_or l (x - 1) 0 + 1) 0 (λ z. q (other e z))) (omega arith)))
    where
      same : x ≡ i + 1 → eqb x (i + 1) ≡ true → get_or (set l (x - 1) (get_or l (x - 1) 0 + 1)) i 0 ≡ get_or l i 0 + one (eqb x (i + 1))
      same q t = let p : x - 1 ≡ i = omega arith in rw (t, p) (get_or-set_same l i (get_or l i 0 + 1) 0 (omega arith))

      other : (x ≡ 0 → ⊥) → i ≡ x - 1 → x ≡ i + 1
      other e z = omega arith

-- both sides of a face, by whether they are cells
module _ (n r l : ℕ) (first : List ℕ) where
  pub both_bumped : {mid last : List ℕ} → (leb 1 r && leb r n) ≡ true → (leb 1 l && leb l n) ≡ true
      → mid ≡ set first (r - 1) (get_or first (r - 1) 0 + 1) → last ≡ set mid (l - 1) (get_or mid (l - 1) 0 + 1)
      → last ≡ bump n l (bump n r first)
  both_bumped {mid} p q e f = f ∙ bump_there n l mid q ∙ ap (bump n l) (e ∙ bump_there n r first p)

  pub right_bumped : {mid : List ℕ} → (leb 1 r && leb r n) ≡ true → (leb 1 l && leb l n) ≡ false
      → mid ≡ set first (r - 1) (get_or first (r - 1) 0 + 1) → mid ≡ bump n l (bump n r first)
  right_bumped {mid} p q e = bump_none n l mid q ∙ ap (bump n l) (e ∙ bump_there n r first p)

  pub left_bumped : {last : List ℕ} → (leb 1 r && leb r n) ≡ false → last ≡ bump n l first → last ≡ bump n l (bump n r first)
  left_bumped p e = e ∙ ap (bump n l) (bump_none n r first p)

pub bumped_small : (cells x b : ℕ) (counts next : List ℕ) → cells ≤ length counts → next ≡ bump cells x counts
    → ((i : ℕ) → i < cells → get_or counts i 0 ≤ b) → (i : ℕ) → i < cells → get_or next i 0 ≤ b + 1
bumped_small cells x b counts next l e h i k =
    omega (arith, ap (λ (m : List ℕ). get_or m i 0) e, bump_at cells x counts i l k, h i k, one_most (eqb x (i + 1)))

module _ (n : ℕ) (rows : List ℕ) (faces cells : ℕ) where
  abbrev Tallied : List ℕ → ℕ → List ℕ → Type 0
  Tallied = Tallying n rows faces cells

  pub tallying_none : (first rest : List ℕ) → first ≡ replicate cells 0 ++ rest → Tallied first 0 first
  unfolding count_over
  tallying_none first rest e = record {
    sums = λ i k.
        let z : faces - 0 ≡ faces = omega arith in
        let a = ap (λ (l : List ℕ). get_or l i 0) e ∙ get_or-append (replicate cells 0) rest 0 i (rw length-replicate k) ∙ get_or-replicate {A = ℕ} cells i 0 0 k in
        rw (a, z) (omega arith);
    rest = refl;
    kept = refl;
  }

  pub tallying_small : {first counts : List ℕ} {f : ℕ} → Tallied first f counts → (i : ℕ) → i < cells → get_or counts i 0 ≤ faces * 2
  tallying_small {first} {counts} {f} t i k = omega (arith, t.sums i k, count_over_most n rows faces (i + 1))

  pub tallying_more : {first counts c₁ c₂ : List ℕ} {f : ℕ} (face : Face) → f < faces → cells ≤ length counts → face ≡ face_at n rows f
      → c₁ ≡ bump cells face.right counts → c₂ ≡ bump cells face.left c₁ → Tallied first f counts → Tallied first (f + 1) c₂
  tallying_more {first} {counts} {c₁} {c₂} {f} face h l e p q t = record {
    sums = λ i k.
        let z : f + 1 - 1 ≡ f = omega arith in
        let more = sum_over_more (λ g. sides_naming (face_at n rows (g - 1)) (i + 1)) (f + 1) f faces h in
        let this : sides_naming (face_at n rows (f + 1 - 1)) (i + 1) ≡ one (eqb face.right (i + 1)) + one (eqb face.left (i + 1)) = rw (z, ← e) (sides_naming_is face (i + 1)) in
        let long : cells ≤ length c₁ = rw (p, bump_length) l in
        omega (arith, ap (λ (m : List ℕ). get_or m i 0) q, ap (λ (m : List ℕ). get_or m i 0) p, bump_at cells face.left c₁ i long k, bump_at cells face.right counts i l k, t.sums i k, more, this);
    rest = ap (drop cells) q ∙ bump_rest cells face.left c₁ ∙ ap (drop cells) p ∙ bump_rest cells face.right counts ∙ t.rest;
    kept = ap length q ∙ bump_length cells face.left c₁ ∙ ap length p ∙ bump_length cells face.right counts ∙ t.kept;
  }

  -- counts that another loop takes over, and what it makes of them
  pub tallying_from : {first counts : List ℕ} {f : ℕ} → Tallied first f counts → Tallied counts f counts
  tallying_from t = record { sums = t.sums; rest = refl; kept = refl }

  pub tallying_on : {first counts last : List ℕ} {f g : ℕ} → Tallied first f counts → Tallied counts g last → Tallied first g last
  tallying_on t u = record { sums = u.sums; rest = u.rest ∙ t.rest; kept = u.kept ∙ t.kept }

  -- behind the last face no side is left
  pub tallying_past : {first counts : List ℕ} {f : ℕ} → faces ≤ f → Tallied first f counts → Tallied first (f + 1) counts
  tallying_past {first} {counts} {f} h t = record {
    sums = λ i k.
        let g : ℕ → ℕ = λ j. sides_naming (face_at n rows (j - 1)) (i + 1) in
        omega (arith, t.sums i k, sum_over_none g (f + 1) f faces h, sum_over_none g (f + 1 + 1) (f + 1) faces (omega arith));
    rest = t.rest;
    kept = t.kept;
  }

  behind : (a b : List ℕ) (i : ℕ) → length a ≡ cells → cells ≤ i → get_or (a ++ b) i 0 ≡ get_or b (i - cells) 0
  behind a b i e h =
      let k : i ≡ length a + (i - cells) = omega arith in
      ap (λ (j : ℕ). get_or (a ++ b) j 0) k ∙ get_or-append-add a b (i - cells) 0

  pub tallying_all : {first counts : List ℕ} {f : ℕ} (rest : List ℕ) → faces ≤ f → first ≡ replicate cells 0 ++ rest → Tallied first f counts
      → counts ≡ listed (count_over n rows faces) 1 cells ++ rest
  tallying_all {first} {counts} {f} rest h l t =
      let long : length first ≡ cells + length rest = ap length l ∙ simp (length-append, length-replicate) in
      let last : drop cells counts ≡ rest = t.rest ∙ ap (drop cells) l ∙ drop_at (replicate cells 0) rest cells (length-replicate cells 0) in
      ext_get_or 0 counts (listed (count_over n rows faces) 1 cells ++ rest)
      (t.kept ∙ long ∙ sym (simp (length-append, listed_length)))
      (λ i k. split (ltb i cells)
      (λ u.
      let c = ltb-true i cells u in
      let z = sum_over_none (λ g. sides_naming (face_at n rows (g - 1)) (i + 1)) (f + 1) f faces h in
      let s : 1 + i ≡ i + 1 = omega arith in
      let a = get_or-append (listed (count_over n rows faces) 1 cells) rest 0 i (rw listed_length c) ∙ listed_at (count_over n rows faces) 1 cells i c in
      omega (arith, z, t.sums i c) ∙ ap (count_over n rows faces) (sym s) ∙ sym a)
      (λ u.
      let c = ltb-false i cells u in
      let b = behind (listed (count_over n rows faces) 1 cells) rest i (listed_length (count_over n rows faces) 1 cells) c in
      let e : cells + (i - cells) ≡ i = omega arith in
      let d = get_or-drop cells counts (i - cells) 0 in
      sym (rw e at d) ∙ ap (λ (m : List ℕ). get_or m (i - cells) 0) last ∙ sym b))
