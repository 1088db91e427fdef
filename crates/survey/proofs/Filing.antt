-- A file section by section: what the loop keeps. Assumes nothing.
use Rattle.std.specs.Prelude.{Result, Ok, Err}
use Rattle.layout.specs.Replies.{Reply, refuses}
use Prim.Native.Nat.{ℕ, suc, ◌+◌, ◌≤◌, ◌<◌}
use native.Mathlib.Omega.{arith}
use native.Mathlib.Numerals.{add-one}
use mathlib.Core.Path.{◌≡◌, refl, sym, ◌∙◌, ap, subst}
use mathlib.Core.List.{List, [], ◌∷◌, ◌++◌}
use mathlib.Core.Bool.{true, false≢true}
use types.Run.{OneOf, miss}
use denote.Enum.Declared.{tag_of}
use lib.ListN.{length, length-set}
use lib.Seq.{sets}
use Rattle.sizes.specs.Sizes.{zones}
use Rattle.tokens.specs.declared.Token.{Token}
use Rattle.tokens.specs.declared.Step.{Step}
use Rattle.tokens.specs.Tokens.{token_at}
use Rattle.tokens.specs.Listed.{Tok, left, tokens_from}
use Rattle.tokens.specs.contracts.Token.{the_type}
use Rattle.tokens.proofs.Bounds.{Moved}
use Rattle.tokens.proofs.Listed.{tokens_kind, moved}
use Rattle.layout.specs.declared.Refusal.{Refusal}
use Rattle.layout.specs.Items as Items
use Rattle.layout.specs.Items.{Item}
use Rattle.layout.specs.Keeps as Keeps
use Rattle.layout.specs.Keeps.{Fits, parts_in}
use Rattle.layout.specs.State as St
use Rattle.layout.specs.State.{start, after}
use Rattle.layout.specs.Reading.{Got, got, bad}
use Rattle.layout.specs.Sections.{section_of}
use Rattle.layout.specs.Read.{Answer, accepted, refused, onward, behind, file_of, tokens_answer}
use Rattle.layout.specs.Grammar.{Section}
use Rattle.layout.proofs.Answers.{Held, held, none}
use Rattle.layout.proofs.Sums.{Seen, none_seen, one_more}
use Rattle.layout.proofs.SoundSections.{section_holds}
use Rattle.layout.proofs.Behind.{section_less}
use Rattle.layout.proofs.Enough.{file_of_enough}
use Rattle.spots.specs.declared.Bad.{Bad}
use Rattle.sofar.specs.declared.State.{State}
use Rattle.notes.specs.declared.note.Met.{Met}
use Rattle.facts.specs.declared.Taken.{Taken}
use Rattle.kept.specs.Kept.{Listed, kept_by_lists}
use Rattle.sofar.specs.Sofar.{id_for}
use Rattle.notes.specs.Noting.{note_state, note_id, note_first, note_last, note_kept, note_place}
use Rattle.sections.specs.Sections.{Outline, outline_of, outlined, met_for, sect_view, SectAt}
use Rattle.sofar.specs.States.{state_by_lists}
use Rattle.endings.specs.Endings.{verdict, last_of}
use Rattle.survey.specs.Before.{nothing}
use Rattle.survey.specs.Sites.{sited, sited_by, sites_from, token_sites}
use Rattle.sections.proofs.Noting.{is_part, note_is}
use Rattle.survey.proofs.Based.{left_next}
use Rattle.survey.proofs.Sites.{sited_noted, sited_bad, sites_enough}

-- ---- answers
verdict_behind : (i : Item) (a : Answer) → verdict (behind i a) ≡ verdict a
verdict_behind i (accepted x is) = refl
verdict_behind i (refused w k o) = refl

abbrev tag : {A : Type 0} → Got A → ℕ
tag (got a us) = 0
tag (bad w o) = 1

abbrev or_else : {A : Type 0} → A → Got A → A
or_else d (got a us) = a
or_else d (bad w o) = d

abbrev rest : {A : Type 0} → Got A → List Tok
rest (got a us) = us
rest (bad w o) = []

abbrev why_of : {A : Type 0} → Refusal → Got A → Refusal
why_of w (got a us) = w
why_of w (bad v o) = v

abbrev at_of : {A : Type 0} → Got A → ℕ
at_of (got a us) = 0
at_of (bad w o) = o

-- what a section's outline says of the section
section_bad : (g : Got Item) (w : Refusal) (o k : ℕ) (f : Item → List Tok → Answer) → bad w o ≡ outlined g → refuses w k o ≡ verdict (onward g k f)
section_bad (got i us) w o k f e = absurd (let z : ◌≡◌ {A = ℕ} 1 0 = ap tag e in omega arith)
section_bad (bad v p) w o k f e = ap (λ y. refuses y k o) (ap (why_of w) e) ∙ ap (refuses v k) (ap at_of e)

record Came (g : Got Item) (o : Outline) (us : List Tok) : Type 0 where
  item : Item
  is : g ≡ got item us
  says : o ≡ outline_of item

section_got : (g : Got Item) (o : Outline) (us : List Tok) → got o us ≡ outlined g → Came g o us
section_got (got i vs) o us e = record { item = i; is = ap (got i) (sym (ap rest e)); says = ap (or_else o) e }
section_got (bad w p) o us e = absurd (let z : ◌≡◌ {A = ℕ} 0 1 = ap tag e in omega arith)

holding : {P : Item → List Tok → Type 0} {g : Got Item} → Held P g → (i : Item) (us : List Tok) → g ≡ got i us → P i us
holding {P} (held p) i us e = subst (λ y. P (or_else i y) (rest y)) e p
holding none i us e = absurd (let z : ◌≡◌ {A = ℕ} 1 0 = ap tag e in omega arith)

few_of : (room : Keeps.Room) (before : List Item) (i : Item) → Fits room before i → is_part (outline_of i) ≡ true → parts_in before < zones
few_of room before (Items.dim n) f e = absurd (false≢true e)
few_of room before (Items.decl k h) f e = absurd (false≢true e)
few_of room before (Items.part k h b) f e = f.few
few_of room before Items.other f e = absurd (false≢true e)

id_length : (m : Met) (z : ℕ) (l : List ℕ) → length (note_id m z l) ≡ length l
id_length (Met.Dim n) z l = refl
id_length (Met.Decl k h) z l = refl
id_length (Met.Part k h) z l = length-set l z (id_for k)
id_length Met.Other z l = refl

first_length : (m : Met) (z : ℕ) (l : List ℕ) → length (note_first m z l) ≡ length l
first_length (Met.Dim n) z l = refl
first_length (Met.Decl k h) z l = refl
first_length (Met.Part k h) z l = length-set l z h.first.value
first_length Met.Other z l = refl

last_length : (m : Met) (z : ℕ) (l : List ℕ) → length (note_last m z l) ≡ length l
last_length (Met.Dim n) z l = refl
last_length (Met.Decl k h) z l = refl
last_length (Met.Part k h) z l = length-set l z h.last.value
last_length Met.Other z l = refl

-- each of the three lists has room for as many sections as a file may have
pub record Long (kept : Listed) : Type 0 where
  pub ids : length kept.ids ≡ zones
  pub firsts : length kept.firsts ≡ zones
  pub lasts : length kept.lasts ≡ zones

kept_long_more : (m : Met) (z : ℕ) (l : Listed) → Long l → Long (note_kept m z l)
kept_long_more m z l g = record { ids = id_length m z l.ids ∙ g.ids; firsts = first_length m z l.firsts ∙ g.firsts; lasts = last_length m z l.lasts ∙ g.lasts }

place_length : (m : Met) (z p : ℕ) (l : List ℕ) → length (note_place m z p l) ≡ length l
place_length (Met.Dim n) z p l = refl
place_length (Met.Decl k h) z p l = refl
place_length (Met.Part k h) z p l = length-set l z p
place_length Met.Other z p l = refl

-- ---- what the loop keeps; `old` are the places at its start
pub record Filing (s : List ℕ) (room : Keeps.Room) (old : List ℕ) (kept : Listed) (places : List ℕ) (x : State) (c k : ℕ) : Type 0 where
  pub before : List Item
  pub seen : Seen before (state_by_lists kept x)
  pub within : c ≤ length s
  pub few : k ≤ c
  pub kept_long : Long kept
  pub places_long : length places ≡ length old
  pub same : verdict (file_of (length s) room (suc (length (tokens_from s c))) (state_by_lists kept x) k (tokens_from s c)) ≡ verdict (tokens_answer (length s) room (tokens_from s 0))
  pub sites : sets places x.zones (sites_from (length s) room (suc (length (tokens_from s c))) (state_by_lists kept x) (tokens_from s c)) ≡ sets old 0 (token_sites (length s) room (tokens_from s 0))

pub nothing_kept : (kept : Listed) → state_by_lists kept nothing ≡ start
unfolding kept_by_lists
nothing_kept kept = refl

module _ (s : List ℕ) (room : Keeps.Room) (old : List ℕ) (kept : Listed) where
  pub filing_start : (x : State) → state_by_lists kept x ≡ start → Long kept → Filing s room old kept old x 0 0
  filing_start x e a =
      record {
        before = [];
        seen = subst (Seen []) (sym e) none_seen;
        within = omega arith;
        few = omega arith;
        kept_long = a;
        places_long = refl;
        same = ap (λ y. verdict (file_of (length s) room (suc (length (tokens_from s 0))) y 0 (tokens_from s 0))) e;
        sites = ap (λ (y : St.State). sets old y.zones (sites_from (length s) room (suc (length (tokens_from s 0))) y (tokens_from s 0))) e;
      }

  module _ (places : List ℕ) (x : State) (c k : ℕ) (f : Filing s room old kept places x c k) (t : Step) (e : t ≡ token_at s c) where
    abbrev here : St.State
    here = state_by_lists kept x

    abbrev whole : Reply
    whole = verdict (tokens_answer (length s) room (tokens_from s 0))

    abbrev found : List ℕ
    found = sets old 0 (token_sites (length s) room (tokens_from s 0))

    no_more : sites_from (length s) room (suc (length (tokens_from s c))) here (tokens_from s c) ≡ [] → places ≡ found
    no_more z = ap (sets places x.zones) (sym z) ∙ f.sites

    last_by : (y : Token) → t.token ≡ y → OneOf (1 ∷ 2 ∷ 3 ∷ 4 ∷ 5 ∷ []) (tag_of the_type y) → (n : ℕ)
        → last_of y t.start here k (length s) ≡ verdict (file_of (length s) room (suc n) here k (tokens_from s c))
    unfolding file_of
    last_by Token.Left q o n = absurd (miss (1 ∷ 2 ∷ 3 ∷ 4 ∷ 5 ∷ []) 0 tt o)
    last_by Token.Right q o n = ap (λ y. verdict (file_of (length s) room (suc n) here k y)) (sym (tokens_kind s c t Token.Right e q))
    last_by Token.Text q o n = ap (λ y. verdict (file_of (length s) room (suc n) here k y)) (sym (tokens_kind s c t Token.Text e q))
    last_by Token.Word q o n = ap (λ y. verdict (file_of (length s) room (suc n) here k y)) (sym (tokens_kind s c t Token.Word e q))
    last_by Token.Unclosed q o n = ap (λ y. verdict (file_of (length s) room (suc n) here k y)) (sym (tokens_kind s c t Token.Unclosed e q))
    last_by Token.End q o n = ap (λ y. verdict (file_of (length s) room (suc n) here k y)) (sym (tokens_kind s c t Token.End e q))

    none_by : (y : Token) → t.token ≡ y → OneOf (1 ∷ 2 ∷ 3 ∷ 4 ∷ 5 ∷ []) (tag_of the_type y) → (n : ℕ) → sites_from (length s) room (suc n) here (tokens_from s c) ≡ []
    unfolding sites_from
    none_by Token.Left q o n = absurd (miss (1 ∷ 2 ∷ 3 ∷ 4 ∷ 5 ∷ []) 0 tt o)
    none_by Token.Right q o n = ap (sites_from (length s) room (suc n) here) (tokens_kind s c t Token.Right e q)
    none_by Token.Text q o n = ap (sites_from (length s) room (suc n) here) (tokens_kind s c t Token.Text e q)
    none_by Token.Word q o n = ap (sites_from (length s) room (suc n) here) (tokens_kind s c t Token.Word e q)
    none_by Token.Unclosed q o n = ap (sites_from (length s) room (suc n) here) (tokens_kind s c t Token.Unclosed e q)
    none_by Token.End q o n = ap (sites_from (length s) room (suc n) here) (tokens_kind s c t Token.End e q)

    pub filing_last : OneOf (1 ∷ 2 ∷ 3 ∷ 4 ∷ 5 ∷ []) (tag_of the_type t.token) → {r : Reply} → r ≡ last_of t.token t.start here k (length s) → (r ≡ whole) × (places ≡ found)
    filing_last o z = (z ∙ last_by t.token refl o _ ∙ f.same, no_more (none_by t.token refl o _))

    module _ (q : t.token ≡ Token.Left) where
      abbrev ahead : List Tok
      ahead = tokens_from s t.next.at

      opens : tokens_from s c ≡ left t.start ∷ ahead
      opens = tokens_kind s c t Token.Left e q

      abbrev on : ℕ → Item → List Tok → Answer
      on n i us = behind i (file_of (length s) room n (after here i) (suc k) us)

      at_left : (n : ℕ) → verdict (onward (section_of (length s) room here ahead) (suc k) (on n)) ≡ verdict (file_of (length s) room (suc n) here k (tokens_from s c))
      unfolding file_of
      at_left n = ap (λ y. verdict (file_of (length s) room (suc n) here k y)) (sym opens)

      abbrev sites_on : ℕ → Item → List Tok → List ℕ
      sites_on n i us = sites_from (length s) room n (after here i) us

      left_sites : (n : ℕ) → sites_from (length s) room (suc n) here (tokens_from s c) ≡ sited_by (section_of (length s) room here ahead) (suc t.start) (sites_on n)
      unfolding sites_from
      left_sites n = ap (sites_from (length s) room (suc n) here) opens

      pub ahead_here : Moved c (length s) t
      ahead_here = moved s c t Token.Left e q tt

      pub filing_no : (b : Bad) {y : Result (Taken Met) Bad} → SectAt s t.next.at y (outlined (section_of (length s) room here ahead)) → y ≡ Err b
          → {r : Reply} → r ≡ refuses b.why (k + 1) b.offset → (r ≡ whole) × (places ≡ found)
      filing_no b h z w =
          let y = ap (sect_view s) (sym z) ∙ h.says in (
            w ∙ ap (λ j. refuses b.why j b.offset) (add-one k) ∙ section_bad (section_of (length s) room here ahead) b.why b.offset (suc k) (on (length (tokens_from s c))) y ∙ at_left _ ∙ f.same,
            no_more (left_sites _ ∙ sited_bad (section_of (length s) room here ahead) b.why b.offset (suc t.start) (sites_on (length (tokens_from s c))) y),
          )

      module _ (taken : Taken Met) {y : Result (Taken Met) Bad} (h : SectAt s t.next.at y (outlined (section_of (length s) room here ahead))) (z : y ≡ Ok taken) where
        abbrev m : Met
        m = taken.value

        abbrev n : ℕ
        n = taken.next

        came : Came (section_of (length s) room here ahead) (met_for m) (tokens_from s n)
        came = section_got (section_of (length s) room here ahead) (met_for m) (tokens_from s n) (ap (sect_view s) (sym z) ∙ h.says)

        good : Section ahead came.item (tokens_from s n) × Fits room f.before came.item
        good = holding (section_holds (length s) f.before here f.seen room ahead) came.item (tokens_from s n) came.is

        few_now : is_part (outline_of came.item) ≡ true → x.zones < zones
        few_now p = omega (arith, few_of room f.before came.item good.1 p, f.seen.zones)

        next_state : state_by_lists (note_kept m x.zones kept) (note_state x m) ≡ after here came.item
        next_state =
            note_is kept x f.kept_long.ids f.kept_long.firsts f.kept_long.lasts m came.item came.says few_now

        pub beyond : (c < n) × (n ≤ length s)
        beyond =
            let a : (t.next.at < n) × (n ≤ length s) = rw z at h.ahead in
            let v = ahead_here in
            omega arith

        count : length (tokens_from s n) < length (tokens_from s c)
        count = let l = section_less good.0 in let z : length (tokens_from s c) ≡ suc (length ahead) = ap length opens in omega arith

        then : Seen (f.before ++ (came.item ∷ [])) (after here came.item)
        then = one_more f.before here f.seen room came.item good.1

        same_on : verdict (file_of (length s) room (suc (length (tokens_from s n))) (after here came.item) (suc k) (tokens_from s n)) ≡ whole
        same_on =
            ap verdict (file_of_enough (length s) room (suc (length (tokens_from s n))) (length (tokens_from s c)) (f.before ++ (came.item ∷ [])) (after here came.item) then (suc k) (tokens_from s n) (omega arith) count)
            ∙ sym (verdict_behind came.item (file_of (length s) room (length (tokens_from s c)) (after here came.item) (suc k) (tokens_from s n)))
            ∙ ap (λ g. verdict (onward g (suc k) (on (length (tokens_from s c))))) (sym came.is)
            ∙ at_left (length (tokens_from s c)) ∙ f.same

        abbrev sites_behind : List ℕ
        sites_behind = sites_from (length s) room (suc (length (tokens_from s n))) (after here came.item) (tokens_from s n)

        sites_on_lem : sets (note_place m x.zones t.next.at places) (note_state x m).zones sites_behind ≡ found
        sites_on_lem =
            sited_noted m x t.next.at places sites_behind (λ p. few_now (ap is_part (sym came.says) ∙ p))
            ∙ ap (λ o. sets places x.zones (sited o t.next.at sites_behind)) came.says
            ∙ ap (λ p. sets places x.zones (sited (outline_of came.item) p sites_behind)) (left_next s c t e q)
            ∙ ap (λ ps. sets places x.zones (sited (outline_of came.item) (suc t.start) ps))
            (sites_enough (length s) room (suc (length (tokens_from s n))) (length (tokens_from s c)) (f.before ++ (came.item ∷ [])) (after here came.item) then (tokens_from s n) (omega arith) count)
            ∙ ap (λ g. sets places x.zones (sited_by g (suc t.start) (sites_on (length (tokens_from s c))))) (sym came.is)
            ∙ ap (sets places x.zones) (sym (left_sites (length (tokens_from s c)))) ∙ f.sites

        pub filing_more : {a : Listed} {l : List ℕ} {y : State} → a ≡ note_kept m x.zones kept
            → l ≡ note_place m x.zones t.next.at places → y ≡ note_state x m → Filing s room old a l y n (k + 1)
        filing_more {a} {l} {y} p u w =
            let st : state_by_lists a y ≡ after here came.item = ap (λ i. state_by_lists i y) p ∙ ap (state_by_lists (note_kept m x.zones kept)) w ∙ next_state in
            record {
              before = f.before ++ (came.item ∷ []);
              seen = subst (Seen (f.before ++ (came.item ∷ []))) (sym st) then;
              within = beyond.1;
              few = omega (arith, f.few, beyond.0);
              kept_long = subst Long (sym p) (kept_long_more m x.zones kept f.kept_long);
              places_long = ap length u ∙ place_length m x.zones t.next.at places ∙ f.places_long;
              same = ap (λ i. verdict (file_of (length s) room (suc (length (tokens_from s n))) i (k + 1) (tokens_from s n))) st
                  ∙ ap (λ i. verdict (file_of (length s) room (suc (length (tokens_from s n))) (after here came.item) i (tokens_from s n))) (add-one k) ∙ same_on;
              sites = ap (λ i. sets i y.zones (sites_from (length s) room (suc (length (tokens_from s n))) (state_by_lists a y) (tokens_from s n))) u
                  ∙ ap (λ (i : State). sets (note_place m x.zones t.next.at places) i.zones (sites_from (length s) room (suc (length (tokens_from s n))) (state_by_lists a y) (tokens_from s n))) w
                  ∙ ap (λ i. sets (note_place m x.zones t.next.at places) (note_state x m).zones (sites_from (length s) room (suc (length (tokens_from s n))) i (tokens_from s n))) st ∙ sites_on_lem;
            }
