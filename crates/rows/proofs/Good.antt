-- On a good file the words and rows that are stored are those that the text says. Assumes nothing.
use Rattle.std.specs.Prelude.{Option, Some, None}
use Prim.Native.Nat.{ℕ, ◌-◌, ◌≤◌}
use mathlib.Core.Path.{◌≡◌, refl, sym, ap, subst, ◌∙◌}
use mathlib.Core.List.{List, [], ◌∷◌}
use mathlib.Core.Bool.{◌&&◌}
use borrow.Author.Tests.{le-ltb}
use lib.Dec.{leb}
use lib.ListN.{length, take, drop}
use Rattle.facts.proofs.Decides.{and_is, le_is}
use Rattle.mesh.specs.Rows.{places}
use Rattle.tokens.specs.declared.Token.{Token}
use Rattle.tokens.specs.declared.Step.{Step}
use Rattle.tokens.specs.Tokens.{token_at}
use Rattle.tokens.specs.Listed.{Tok, tok_then, tokens_from}
use Rattle.tokens.proofs.Listed.{tokens_kind}
use Rattle.numbers.specs.declared.sort.Sort.{Sort}
use Rattle.numbers.specs.Whole.{hexadecimal_of}
use Rattle.layout.specs.declared.Refusal.{Refusal}
use Rattle.layout.specs.Rows.{joined, face_row}
use Rattle.layout.specs.Reading as R
use Rattle.layout.specs.Reading.{Reader, next, pure, word_of, numbered, hex_word, rows_of}
use Rattle.layout.specs.Sections.{hex_of, element_of, facing_of, mixed_of}
use Rattle.facts.specs.declared.Taken.{Taken}
use Rattle.quick.specs.Quick.{known_of}
use Rattle.quick.proofs.Knowing.{known_word}
use Rattle.again.specs.Again.{Then, many, Takes}
use Rattle.again.proofs.Then.{then_more, then_next, then_pure, then_check}
use Rattle.again.proofs.Many.{many_takes}
use Rattle.rows.specs.declared.row.Form.{Form}
use Rattle.rows.specs.Words.{word_at, words_at}
use Rattle.rows.specs.Rows.{corners_of, facet_at, facing_at, row_at, rows_at}

-- ---- readers of rows as words
abbrev pub mapped : {A B : Type 0} → (A → B) → Reader A → Reader B
mapped f r ts = next (r ts) (λ a. pure (f a))

-- the row of a form in a section of this type
abbrev pub row_read : ℕ → Form → ℕ → Reader (List ℕ)
row_read size (Form.Facing n) t = mapped (face_row places t) (facing_of size n)
row_read size Form.Mixed t = mapped (face_row places t) (mixed_of size)
row_read size Form.Element t = mapped (λ e. e ∷ t ∷ []) (element_of size)

-- a face has no more nodes than a row has places
abbrev pub Placed : Form → Type 0
Placed (Form.Facing n) = n ≤ places
Placed Form.Mixed = Unit
Placed Form.Element = Unit

module _ (s : List ℕ) where
  -- ---- one word
  module _ (at : ℕ) where
    abbrev t : Step
    t = token_at s at

    abbrev Read : R.Read → List Tok → Type 0
    Read x us = ((known_of s at).value ≡ x.value) × (tokens_from s (known_of s at).next ≡ us)

    abbrev here : List ℕ
    here = take (t.next.at - t.start) (drop t.start s)

    number_then : t.token ≡ Token.Word → (u : Option ℕ) → hexadecimal_of here ≡ u → Then (numbered (length s) Sort.Hexadecimal u t.start here (tokens_from s t.next.at)) Read
    number_then q (Some v) h = let k = known_word s at t refl q v h in (ap (λ (y : Taken ℕ). y.value) k, ap (λ (y : Taken ℕ). tokens_from s y.next) k)
    number_then q None h = tt

    token_then : (k : Token) → t.token ≡ k → Then (hex_word (length s) (tok_then k s t.start t.next.at (tokens_from s t.next.at))) Read
    unfolding word_of
    token_then Token.Left q = tt
    token_then Token.Right q = tt
    token_then Token.Text q = tt
    token_then Token.Word q = number_then q (hexadecimal_of here) refl
    token_then Token.Unclosed q = tt
    token_then Token.End q = tt

    known_then : Then (hex_word (length s) (tokens_from s at)) Read
    known_then = subst (λ ts. Then (hex_word (length s) ts) Read) (sym (tokens_kind s at t t.token refl refl)) (token_then t.token refl)

  word_takes : Takes (tokens_from s) (word_at s) (hex_of (length s))
  unfolding hex_of
  word_takes at = then_pure (hex_word (length s) (tokens_from s at)) (λ x. x.value) (λ v us. ((known_of s at).value ≡ v) × (tokens_from s (known_of s at).next ≡ us)) (known_then at) (λ x us p. p)

  -- ---- one row
  facing_takes : (n : ℕ) → Takes (tokens_from s) (λ at. record { thing = facet_at s n at; next = (words_at s 2 (words_at s n at).next).next }) (facing_of (length s) n)
  unfolding facing_of many
  facing_takes n at =
      let ns = words_at s n at in
      let r = word_at s ns.next in
      let l = word_at s r.next in
      then_next (rows_of (length s) (hex_of (length s)) n (tokens_from s at)) _ (λ f us. (facet_at s n at ≡ f) × (tokens_from s l.next ≡ us)) (many_takes (tokens_from s) (word_at s) (hex_of (length s)) (length s) word_takes n at)
      (λ xs us p. then_next (hex_of (length s) us) _ (λ f vs. (facet_at s n at ≡ f) × (tokens_from s l.next ≡ vs))
      (subst (λ vs. Then (hex_of (length s) vs) (λ a ws. (r.thing ≡ a) × (tokens_from s r.next ≡ ws))) p.1 (word_takes ns.next))
      (λ a vs q. then_pure (hex_of (length s) vs) (λ b. record { corners = xs; right = a; left = b }) (λ f ws. (facet_at s n at ≡ f) × (tokens_from s l.next ≡ ws))
      (subst (λ ws. Then (hex_of (length s) ws) (λ b xs. (l.thing ≡ b) × (tokens_from s l.next ≡ xs))) q.1 (word_takes r.next))
      (λ b ws y. (λ i. record { corners = p.0 i; right = q.0 i; left = y.0 i }, y.1))))

  corners_are : (n : ℕ) → n ≤ places → corners_of n ≡ n
  unfolding corners_of
  corners_are n h = rw (le-ltb places n h, corners_of)

  row_facing : (n ztype : ℕ) → Takes (tokens_from s) (λ at. facing_at s n ztype at) (mapped (face_row places ztype) (facing_of (length s) n))
  row_facing n ztype at =
      then_pure (facing_of (length s) n (tokens_from s at)) (face_row places ztype) (λ row us. ((facing_at s n ztype at).thing ≡ row) × (tokens_from s (facing_at s n ztype at).next ≡ us))
      (facing_takes n at) (λ f us p. (ap (face_row places ztype) p.0, p.1))

  mixed_facet : (at : ℕ)
      → Then (mixed_of (length s) (tokens_from s at)) (λ f us. (facet_at s (corners_of (known_of s at).value) (known_of s at).next ≡ f) × (tokens_from s (facing_at s (corners_of (known_of s at).value) 0 (known_of s at).next).next ≡ us))
  unfolding mixed_of
  mixed_facet at =
      let k = known_of s at in
      then_next (hex_word (length s) (tokens_from s at)) _ (λ f us. (facet_at s (corners_of k.value) k.next ≡ f) × (tokens_from s (facing_at s (corners_of k.value) 0 k.next).next ≡ us)) (known_then at)
      (λ x us q. then_check (leb 2 x.value && leb x.value 4) Refusal.Type x.at (facing_of (length s) x.value) us
      (λ f vs. (facet_at s (corners_of k.value) k.next ≡ f) × (tokens_from s (facing_at s (corners_of k.value) 0 k.next).next ≡ vs))
      (λ b. let e : corners_of k.value ≡ x.value = ap corners_of q.0 ∙ corners_are x.value ((and_is (le_is 2 x.value) (le_is x.value 4)).0 b).1 in
      subst (λ m. Then (facing_of (length s) x.value us) (λ f vs. (facet_at s m k.next ≡ f) × (tokens_from s (facing_at s m 0 k.next).next ≡ vs))) (sym e)
      (subst (λ vs. Then (facing_of (length s) x.value vs) (λ f ws. (facet_at s x.value k.next ≡ f) × (tokens_from s (facing_at s x.value 0 k.next).next ≡ ws))) q.1 (facing_takes x.value k.next))))

  element_takes : (at : ℕ) → Then (element_of (length s) (tokens_from s at)) (λ e us. ((known_of s at).value ≡ e) × (tokens_from s (known_of s at).next ≡ us))
  unfolding element_of
  element_takes at =
      then_next (hex_word (length s) (tokens_from s at)) _ (λ e us. ((known_of s at).value ≡ e) × (tokens_from s (known_of s at).next ≡ us)) (known_then at)
      (λ x us q. then_check (leb 1 x.value && leb x.value 6) Refusal.Type x.at (pure x.value) us (λ e vs. ((known_of s at).value ≡ e) × (tokens_from s (known_of s at).next ≡ vs)) (λ _. q))

  row_takes : (form : Form) (ztype : ℕ) → Placed form → Takes (tokens_from s) (λ at. row_at s form ztype at) (row_read (length s) form ztype)
  row_takes (Form.Facing n) ztype h at =
      subst (λ m. Then (mapped (face_row places ztype) (facing_of (length s) n) (tokens_from s at)) (λ row us. ((facing_at s m ztype at).thing ≡ row) × (tokens_from s (facing_at s m ztype at).next ≡ us)))
      (sym (corners_are n h)) (row_facing n ztype at)
  row_takes Form.Mixed ztype h at =
      then_pure (mixed_of (length s) (tokens_from s at)) (face_row places ztype) (λ row us. ((row_at s Form.Mixed ztype at).thing ≡ row) × (tokens_from s (row_at s Form.Mixed ztype at).next ≡ us))
      (mixed_facet at) (λ f us p. (ap (face_row places ztype) p.0, p.1))
  row_takes Form.Element ztype h at =
      then_pure (element_of (length s) (tokens_from s at)) (λ e. e ∷ ztype ∷ []) (λ row us. ((row_at s Form.Element ztype at).thing ≡ row) × (tokens_from s (row_at s Form.Element ztype at).next ≡ us))
      (element_takes at) (λ e us p. (ap (λ y. y ∷ ztype ∷ []) p.0, p.1))

  -- ---- all rows
  pub rows_good : (form : Form) (ztype n at : ℕ) → Placed form → Then (rows_of (length s) (row_read (length s) form ztype) n (tokens_from s at)) (λ xs us. rows_at s form ztype n at ≡ joined xs)
  unfolding rows_at
  rows_good form ztype n at h =
      then_more (rows_of (length s) (row_read (length s) form ztype) n (tokens_from s at)) (λ xs us p. ap joined p.0)
      (many_takes (tokens_from s) (λ p. row_at s form ztype p) (row_read (length s) form ztype) (length s) (row_takes form ztype h) n at)
