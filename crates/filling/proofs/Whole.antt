-- All regular sections, one by one: what the loop keeps. Assumes nothing.
use Rattle.std.specs.Prelude.{◌≡◌, ℕ, suc, ◌+◌, ◌*◌, ◌<◌, ◌≤◌, Bool, true, false, List, [], ◌∷◌, length, get_or, ℤ}
use native.Mathlib.Omega.{arith}
use mathlib.Core.Path.{refl, sym, ◌∙◌, ap, subst}
use lib.Seq.{sets}
use Rattle.layout.specs.Items.{Kind, Header, Body, Item, dim, decl, part, other}
use Rattle.layout.specs.Rows.{Piece, Table, same_kind, piece_of, pieces_of, zones_of, zone_of, mantissa_table, exponent_table, face_table, cell_table}
use Rattle.layout.specs.Read.{lay}
use Rattle.tables.specs.Places.{words_of}
use Rattle.filling.specs.Found.{flat_of}
use Rattle.survey.specs.Sites.{Stands, AllStand}
use Rattle.filling.specs.Passing.{AllFit, laid_by, PassesAt, Tabled, Laid, laid_from, Has, Fills}
use Rattle.again.proofs.Puts.{sets_behind}

-- ---- one item, then the rest
laid_both : {A : Type 0} (p : Piece A) (ps : List (Piece A)) (b : Bool) (old : List A)
    → lay ps (lay (elim b [ true ↦ p ∷ [] | false ↦ [] ]) old) ≡ lay (elim b [ true ↦ p ∷ ps | false ↦ ps ]) old
unfolding lay
laid_both p ps true old = refl
laid_both p ps false old = refl

laid_more : {A : Type 0} (t : Table A) (i : Item) (is : List Item) (old : List A) → lay (pieces_of t is) (laid_by t i old) ≡ lay (pieces_of t (i ∷ is)) old
unfolding lay
laid_more t (dim n) is old = refl
laid_more t (decl k h) is old = refl
laid_more t (part k h b) is old = laid_both (piece_of t h b) (pieces_of t is) (same_kind k t.kind) old
laid_more t other is old = refl

listed_more : (k : Kind) (h : Header) (b : Body) (is : List Item) (z : ℕ) (old : List ℕ)
    → sets (sets old (6 * z) (words_of (zone_of k h))) (6 * (z + 1)) (flat_of (zones_of is)) ≡ sets old (6 * z) (flat_of (zones_of (part k h b ∷ is)))
listed_more k h b is z old = sets_behind (words_of (zone_of k h)) (flat_of (zones_of is)) old (6 * z) (6 * (z + 1)) (omega arith)

tabled_is : {m m' e e' : List ℤ} {f f' c c' l l' : List ℕ} → m ≡ m' → e ≡ e' → f ≡ f' → c ≡ c' → l ≡ l'
    → ◌≡◌ {A = Tabled} (record { mantissas = m; exponents = e; faces = f; cells = c; list = l }) (record { mantissas = m'; exponents = e'; faces = f'; cells = c'; list = l' })
tabled_is {m} {m'} {e} {e'} {f} {f'} {c} {c'} {l} p q r s t =
    ap (λ x. record { mantissas = x; exponents = e; faces = f; cells = c; list = l }) p
    ∙ ap (λ x. record { mantissas = m'; exponents = x; faces = f; cells = c; list = l }) q
    ∙ ap (λ x. record { mantissas = m'; exponents = e'; faces = x; cells = c; list = l }) r
    ∙ ap (λ x. record { mantissas = m'; exponents = e'; faces = f'; cells = x; list = l }) s
    ∙ ap (λ x. record { mantissas = m'; exponents = e'; faces = f'; cells = c'; list = x }) t

-- ---- what is left
record Rest (s places : List ℕ) (n d z : ℕ) (old cur : Tabled) (is : List Item) : Type 0 where
  rest : List Item
  sites : List ℕ
  stand : AllStand s rest sites
  has : Has places z sites
  count : z + length sites ≡ n
  fits : AllFit d z rest
  same : laid_from rest z cur ≡ laid_from is 0 old

pub record Filling (s places : List ℕ) (n d z : ℕ) (old cur : Tabled) : Type 0 where
  left : (is : List Item) (ps : List ℕ) → AllStand s is ps → Has places 0 ps → length ps ≡ n → AllFit d 0 is → Rest s places n d z old cur is

module _ (s places : List ℕ) (n d : ℕ) (old : Tabled) where
  pub filling_start : Filling s places n d 0 old old
  filling_start =
      record {
        left = λ is ps a h l f. record { rest = is; sites = ps; stand = a; has = h; count = omega (arith, l); fits = f; same = refl };
      }

  module _ (z : ℕ) (cur : Tabled) (g : Filling s places n d z old cur) where
    -- the end
    none_laid : (rest : List Item) → AllStand s rest [] → cur ≡ laid_from rest z cur
    unfolding lay
    none_laid [] a = refl
    none_laid (dim m ∷ rest) a = none_laid rest a
    none_laid (decl k h ∷ rest) a = none_laid rest a
    none_laid (part k h b ∷ rest) a = absurd a
    none_laid (other ∷ rest) a = none_laid rest a

    none_left : (rest : List Item) (ps : List ℕ) → AllStand s rest ps → z + length ps ≡ n → n ≤ z → cur ≡ laid_from rest z cur
    none_left rest [] a e l = none_laid rest a
    none_left rest (p ∷ ps) a e l = absurd (omega arith)

    pub filling_end : n ≤ z → Fills s places n d old cur
    filling_end l is ps a h c f = let r = g.left is ps a h c f in none_left r.rest r.sites r.stand r.count l ∙ r.same

    -- one more
    module _ (l : z < n) (at : ℕ) (e : at ≡ get_or places z 0) (new : Tabled)
        (p : PassesAt s at z d cur.list new.list (Laid cur new)) where
      plain : (rest : List Item) → AllFit d (z + 0) rest → AllFit d z rest
      plain rest f = let x : z + 0 ≡ z = omega arith in subst (λ y. AllFit d y rest) x f

      advance : (is rest : List Item) (ps : List ℕ) → AllStand s rest ps → Has places z ps → z + length ps ≡ n → AllFit d z rest → laid_from rest z cur ≡ laid_from is 0 old
          → Rest s places n d (z + 1) old new is
      unfolding lay
      advance is [] [] a h c f q = absurd (omega arith)
      advance is [] (x ∷ ps) a h c f q = absurd a
      advance is (dim m ∷ rest) ps a h c f q = advance is rest ps a h c (plain rest f.1) q
      advance is (decl k y ∷ rest) ps a h c f q = advance is rest ps a h c (plain rest f.1) q
      advance is (part k y b ∷ rest) [] a h c f q = absurd a
      advance is (part k y b ∷ rest) (x ∷ ps) a h c f q =
          let w = p.says k y b (subst (λ i. Stands s i (part k y b)) (sym (e ∙ h.0)) a.0) f.0 in
          let next : suc z ≡ z + 1 = omega arith in
          record {
            rest = rest;
            sites = ps;
            stand = a.1;
            has = subst (λ i. Has places i ps) next h.1;
            count = omega (arith, c);
            fits = f.1;
            same = tabled_is
                (ap (lay (pieces_of mantissa_table rest)) w.0.0 ∙ laid_more mantissa_table (part k y b) rest cur.mantissas)
                (ap (lay (pieces_of exponent_table rest)) w.0.1 ∙ laid_more exponent_table (part k y b) rest cur.exponents)
                (ap (lay (pieces_of face_table rest)) w.0.2 ∙ laid_more face_table (part k y b) rest cur.faces)
                (ap (lay (pieces_of cell_table rest)) w.0.3 ∙ laid_more cell_table (part k y b) rest cur.cells)
                (ap (λ i. sets i (6 * (z + 1)) (flat_of (zones_of rest))) w.1 ∙ listed_more k y b rest z cur.list)
                ∙ q;
          }
      advance is (other ∷ rest) ps a h c f q = advance is rest ps a h c (plain rest f.1) q

      pub filling_more : Filling s places n d (z + 1) old new
      filling_more =
          record {
            left = λ is ps a h c f. let r = g.left is ps a h c f in advance is r.rest r.sites r.stand r.has r.count r.fits r.same;
          }
