-- What reading keeps of the sections so far decides what the layout asks of them; one item more keeps it so. Assumes nothing.
use Prim.Native.Nat.{ℕ, ◌≤◌, ◌<◌}
use native.Mathlib.Omega.{arith}
use mathlib.Core.Path.{◌≡◌, refl, sym, ◌∙◌}
use mathlib.Core.Logic.{◌⊎◌, inl}
use mathlib.Core.List.{List, [], ◌∷◌, ◌++◌}
use mathlib.Core.Bool.{Bool, true, false, ◌&&◌, not, false≢true}
use borrow.Author.Tests.{eqb-true, eq-eqb, not-true}
use lib.Dec.{eqb}
use Rattle.facts.proofs.Branch.{differ}
use Rattle.facts.proofs.Decides.{Decides, yes_is, no_is, by, lt_is, le_is, and_is, or_is, and_split, and_join, either_of}
use Rattle.layout.specs.Items.{Kind, node, cell, face, absent, given, Header, Body, Item, dim, decl, part, other, dim_word}
use Rattle.layout.specs.Keeps.{Room, All, Some, Declares, Undeclared, Apart, Covers, parts_in, Fits}
use Rattle.layout.specs.Rows.{same_kind}
use Rattle.layout.specs.State.{Per, State, unseen, start, per, put, spanned, declared_as, after, every, some_of, clear, covers}
use Rattle.layout.proofs.Lists.{all_more, some_more, kept, none, same_true, kinds_differ, parts_append}
use Rattle.layout.proofs.Dims.{Dims, none_dims, more_dims}

module _ (x : State) (p : Per) (d z : ℕ) where
  put_same : (k : Kind) → per (put x k p d z) k ≡ p
  put_same node = refl
  put_same cell = refl
  put_same face = refl

  put_other : (j k : Kind) → same_kind j k ≡ false → per (put x j p d z) k ≡ per x k
  put_other node node e = absurd (false≢true (sym e))
  put_other node cell e = refl
  put_other node face e = refl
  put_other cell node e = refl
  put_other cell cell e = absurd (false≢true (sym e))
  put_other cell face e = refl
  put_other face node e = refl
  put_other face cell e = refl
  put_other face face e = absurd (false≢true (sym e))

  put_dim : (k : Kind) → (put x k p d z).dimension ≡ d
  put_dim node = refl
  put_dim cell = refl
  put_dim face = refl

  put_zones : (k : Kind) → (put x k p d z).zones ≡ z
  put_zones node = refl
  put_zones cell = refl
  put_zones face = refl

-- ---- of one kind
pub record Sums (before : List Item) (k : Kind) (p : Per) : Type 0 where
  pub free : Decides (not p.declared) (All (Undeclared k) before)
  pub total : (t : ℕ) → Decides (p.declared && eqb p.total t) (Some (Declares k t) before)
  pub apart : (f l : ℕ) → Decides (every (clear f l) p.spans) (All (Apart k f l) before)
  pub covered : (i : ℕ) → Decides (some_of (covers i) p.spans) (Some (Covers k i) before)
  pub zero_total : p.declared ≡ false → p.total ≡ 0

none_sums : (k : Kind) → Sums [] k unseen
unfolding every some_of
none_sums k = record { free = yes_is; total = λ t. no_is; apart = λ f l. yes_is; covered = λ i. no_is; zero_total = λ _. refl }

module _ (before : List Item) (k : Kind) (p : Per) (s : Sums before k p) where
  -- an item of another kind, or of none
  other_sums : (i : Item) → Undeclared k i → ((t : ℕ) → Declares k t i → ⊥) → ((f l : ℕ) → Apart k f l i) → ((n : ℕ) → Covers k n i → ⊥)
      → Sums (before ++ (i ∷ [])) k p
  other_sums i a b c d =
      record {
        free = kept before _ i a s.free;
        total = λ t. none before _ i (b t) (s.total t);
        apart = λ f l. kept before _ i (c f l) (s.apart f l);
        covered = λ n. none before _ i (d n) (s.covered n);
        zero_total = s.zero_total;
      }

  decl_sums : (h : Header) → All (Undeclared k) before → Sums (before ++ (decl k h ∷ [])) k (declared_as p h)
  decl_sums h once =
      record {
        free = by (all_more (Undeclared k) (decl k h) before) (λ q. absurd (false≢true q), λ y. absurd (y.0 refl));
        total = λ u. by (some_more (Declares k u) (decl k h) before)
            (λ q. inl (refl, eqb-true h.last u q), λ y. eq-eqb h.last u (either_of y (λ e. e.1) (λ e. absurd (clash u e))));
        apart = λ f l. kept before _ (decl k h) tt (s.apart f l);
        covered = λ n. none before _ (decl k h) (λ z. z) (s.covered n);
        zero_total = λ e. differ true refl e;
      }
    where
      clash : (u : ℕ) → Some (Declares k u) before → ⊥
      clash u e =
          let a = (and_split p.declared (eqb p.total u) ((s.total u).1 e)).0 in
          let b = not-true p.declared (s.free.1 once) in
          false≢true (sym b ∙ a)

  part_sums : (h : Header) (b : Body) → Sums (before ++ (part k h b ∷ [])) k (spanned p h)
  unfolding every some_of
  part_sums h b =
      record {
        free = kept before _ (part k h b) tt s.free;
        total = λ t. none before _ (part k h b) (λ z. z) (s.total t);
        apart = λ f l. by (all_more (Apart k f l) (part k h b) before) (and_is (clear_here f l) (s.apart f l));
        covered = λ n. by (some_more (Covers k n) (part k h b) before) (or_is (covers_here n) (s.covered n));
        zero_total = s.zero_total;
      }
    where
      clear_here : (f l : ℕ) → Decides (clear f l (record { first = h.first; last = h.last })) (k ≡ k → (h.last < f) ⊎ (l < h.first))
      clear_here f l = let d = or_is (lt_is h.last f) (lt_is l h.first) in (λ e _. d.0 e, λ y. d.1 (y refl))

      covers_here : (n : ℕ) → Decides (covers n (record { first = h.first; last = h.last })) ((k ≡ k) × (h.first ≤ n) × (n ≤ h.last))
      covers_here n = let d = and_is (le_is h.first n) (le_is n h.last) in (λ e. let y = d.0 e in (refl, y.0, y.1), λ y. d.1 (y.1, y.2))

module _ (is : List Item) (k : Kind) (p : Per) (s : Sums is k p) where
  pub total_is : (t : ℕ) → Some (Declares k t) is → (p.declared ≡ true) × (p.total ≡ t)
  total_is t d = let a = and_split p.declared (eqb p.total t) ((s.total t).1 d) in (a.0, eqb-true _ _ a.1)

  pub declared_is : p.declared ≡ true → Some (Declares k p.total) is
  declared_is e = (s.total p.total).0 (and_join e (eq-eqb p.total p.total refl))

-- ---- of all
pub record Seen (before : List Item) (x : State) : Type 0 where
  pub kinds : (k : Kind) → Sums before k (per x k)
  pub dims : Dims before x.dimension
  pub zones : x.zones ≡ parts_in before

pub none_seen : Seen [] start
none_seen = record { kinds = sums; dims = none_dims; zones = refl }
  where
    sums : (k : Kind) → Sums [] k (per start k)
    sums node = none_sums node
    sums cell = none_sums cell
    sums face = none_sums face

module _ (before : List Item) (x : State) (s : Seen before x) where
  decl_at : (j k : Kind) (h : Header) → All (Undeclared j) before → (b : Bool) → same_kind j k ≡ b
      → Sums (before ++ (decl j h ∷ [])) k (per (after x (decl j h)) k)
  decl_at j k h f true e = rw (← same_true j k e, put_same) (decl_sums before j (per x j) (s.kinds j) h f)
  decl_at j k h f false e =
      rw (put_other x _ _ _ j k e)
      (other_sums before k (per x k) (s.kinds k) (decl j h) (kinds_differ e) (λ u d. kinds_differ e d.0) (λ a b. tt) (λ n d. d))

  part_at : (j k : Kind) (h : Header) (b : Body) (c : Bool) → same_kind j k ≡ c → Sums (before ++ (part j h b ∷ [])) k (per (after x (part j h b)) k)
  part_at j k h b true e = rw (← same_true j k e, put_same) (part_sums before j (per x j) (s.kinds j) h b)
  part_at j k h b false e =
      rw (put_other x _ _ _ j k e)
      (other_sums before k (per x k) (s.kinds k) (part j h b) tt (λ u d. d) (λ f l q. absurd (kinds_differ e q)) (λ n d. kinds_differ e d.0))

  dim_per : (n : ℕ) (k : Kind) → per (after x (dim n)) k ≡ per x k
  dim_per n node = refl
  dim_per n cell = refl
  dim_per n face = refl

  pub one_more : (room : Room) (i : Item) → Fits room before i → Seen (before ++ (i ∷ [])) (after x i)
  one_more room (dim n) f =
      record {
        kinds = λ k. rw (dim_per n k) (other_sums before k (per x k) (s.kinds k) (dim n) tt (λ t d. d) (λ a b. tt) (λ m d. d));
        dims = more_dims before x.dimension s.dims (dim n) (given n) refl f;
        zones = omega (arith, s.zones, parts_append before (dim n ∷ []));
      }
  one_more room (decl j h) f =
      record {
        kinds = λ k. decl_at j k h f.once (same_kind j k) refl;
        dims = rw (put_dim x _ _ _ j) (more_dims before x.dimension s.dims (decl j h) (dim_word j h.fifth) refl f.dimension);
        zones = put_zones x _ _ _ j ∙ omega (arith, s.zones, parts_append before (decl j h ∷ []));
      }
  one_more room (part j h b) f =
      record {
        kinds = λ k. part_at j k h b (same_kind j k) refl;
        dims = rw (put_dim x _ _ _ j) (more_dims before x.dimension s.dims (part j h b) (dim_word j h.fifth) refl f.dimension);
        zones = put_zones x _ _ _ j ∙ omega (arith, s.zones, parts_append before (part j h b ∷ []));
      }
  one_more room other f =
      record {
        kinds = λ k. other_sums before k (per x k) (s.kinds k) other tt (λ t d. d) (λ a b. tt) (λ m d. d);
        dims = more_dims before x.dimension s.dims other absent refl tt;
        zones = omega (arith, s.zones, parts_append before (other ∷ []));
      }
