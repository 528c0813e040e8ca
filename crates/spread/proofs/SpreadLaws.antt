-- Classes by answer and number: each state goes by the first that has both, and such classes are on the way to those of equivalent states.
use mathlib.Core.Path.{◌≡◌, refl, sym, ap, ◌∙◌}
use mathlib.Core.Bool.{Bool, true, false, false≢true}
use mathlib.Core.Logic.{◌⊎◌, inl, inr, ◌≢◌}
use mathlib.Core.List.{List, []}
use Prim.Native.Nat.{ℕ, suc, ◌+◌, ◌-◌, ◌≤◌, ◌<◌, zero-le}
use native.Mathlib.Nat.{not-suc-le-zero}
use native.Mathlib.Omega.{arith}
use lib.ListN.{length, get_or, set}
use lib.Seq.{get_or-set_same, get_or-set_other}
use Rattle.automata.specs.Booleans.{bool_cases}
use Rattle.automata.specs.Basics.{LtCases, lt_cases, SameCases, same_cases, nat_test}
use Rattle.automata.specs.Machine.{size, automaton}
use Rattle.entries.specs.declared.table.Table.{Table}
use Rattle.entries.specs.Entries.{flag_at, machine_of}
use Rattle.entries.specs.Classes.{Refining}
use Rattle.spread.specs.Change.{Alike}
use Rattle.spread.specs.Gather.{first_of, On, Gathered, Gathering, Joined, Numbered}
use Rattle.entries.proofs.EntryLaws.{machine_size, machine_accepting}

-- ---- one state joins

module _ (T : Table) (side : Bool) (far cls : List ℕ) (N : Numbered T far) where
  pub gather_starts : (firsts : List ℕ) → ((d : ℕ) → d < T.states → first_of firsts d ≡ 0) → Gathering T side far cls cls firsts 0
  gather_starts firsts z = record {
    gathered = record {
      others = λ p h d. refl;
      low = λ p o. absurd (not-suc-le-zero o.below);
      leader = λ p o. absurd (not-suc-le-zero o.below);
      number = λ p o. absurd (not-suc-le-zero o.below);
      whole = λ p q o. absurd (not-suc-le-zero o.below);
    };
    listed = λ p o. absurd (not-suc-le-zero o.below);
    first = λ d r b e. absurd (omega (arith, z d b, e));
  }

  module _ (u firsts : List ℕ) (p : ℕ) (h : p < T.states) (G : Gathering T side far cls u firsts p) where
    -- a state with the other answer
    pub gather_passes : flag_at T.cells.now p ≢ side → Gathering T side far cls u firsts (p + 1)
    gather_passes d = record {
      gathered = record {
        others = G.gathered.others;
        low = λ q o. G.gathered.low q (back q o);
        leader = λ q o. on (get_or u q 0) (G.gathered.leader q (back q o));
        number = λ q o. G.gathered.number q (back q o);
        whole = λ q r o v. G.gathered.whole q r (back q o) (back r v);
      };
      listed = λ q o. G.listed q (back q o);
      first = λ x r b i. (on r (G.first x r b i).0, (G.first x r b i).1);
    }
      where
        back : (q : ℕ) → On T side q (p + 1) → On T side q p
        back q o = go (lt_cases q p)
          where
            go : LtCases q p → On T side q p
            go (inl x) = record { below = x.0; answers = o.answers }
            go (inr x) = let z : q ≡ p = omega (arith, o.below) in absurd (d (rw z at o.answers))

        on : (q : ℕ) → On T side q p → On T side q (p + 1)
        on q o = record { below = omega (arith, o.below); answers = o.answers }

    -- State p gets the class x: itself, where no state with its number is listed, or the one that is; it is listed then, and all else stays.
    module _ (v firsts' : List ℕ) (x : ℕ) (a : flag_at T.cells.now p ≡ side) (here : get_or v p 0 ≡ x) (same : (q : ℕ) → q < T.states → q ≢ p → get_or v q 0 ≡ get_or u q 0)
        (listed : first_of firsts' (get_or far p 0) ≡ suc x) (others : (d : ℕ) → d < T.states → d ≢ get_or far p 0 → first_of firsts' d ≡ first_of firsts d)
        (which : ((x ≡ p) × (first_of firsts (get_or far p 0) ≡ 0)) ⊎ (first_of firsts (get_or far p 0) ≡ suc x)) where
      data Which (q : ℕ) : Type 0 where
        old : On T side q p → get_or v q 0 ≡ get_or u q 0 → Which q
        new : q ≡ p → Which q

      case : (q : ℕ) → On T side q (p + 1) → Which q
      case q o = go (lt_cases q p)
        where
          go : LtCases q p → Which q
          go (inl y) = old (record { below = y.0; answers = o.answers }) (same q (omega (arith, y.0)) (λ z. omega (arith, y.0, z)))
          go (inr y) = new (omega (arith, o.below))

      on : (q : ℕ) → On T side q p → On T side q (p + 1)
      on q o = record { below = omega (arith, o.below); answers = o.answers }

      record Leader : Type 0 where
        low : x ≤ p
        on : On T side x (p + 1)
        number : get_or far x 0 ≡ get_or far p 0

      leader : Leader
      leader = go which
        where
          go : ((x ≡ p) × (first_of firsts (get_or far p 0) ≡ 0)) ⊎ (first_of firsts (get_or far p 0) ≡ suc x) → Leader
          go (inl e) = record { low = omega (arith, e.0); on = rw e.0 (record { below = omega arith; answers = a }); number = ap (λ i. get_or far i 0) e.0 }
          go (inr e) = let f = G.first (get_or far p 0) x (N.most p h) e in record { low = omega (arith, f.0.below); on = on x f.0; number = f.1 }

      -- the class of an earlier state with p's number is x
      meets : (q : ℕ) → On T side q p → get_or far q 0 ≡ get_or far p 0 → get_or u q 0 ≡ x
      meets q o e = go which
        where
          l : first_of firsts (get_or far p 0) ≡ suc (get_or u q 0)
          l = ap (first_of firsts) (sym e) ∙ G.listed q o

          go : ((x ≡ p) × (first_of firsts (get_or far p 0) ≡ 0)) ⊎ (first_of firsts (get_or far p 0) ≡ suc x) → get_or u q 0 ≡ x
          go (inl f) = absurd (omega (arith, l, f.1))
          go (inr f) = omega (arith, l, f)

      pub gather_more : Gathering T side far cls v firsts' (p + 1)
      gather_more = record {
        gathered = record {
          others = λ q b d. same q b (λ e. d (ap (flag_at T.cells.now) e ∙ a)) ∙ G.gathered.others q b d;
          low = λ q o. low q (case q o);
          leader = λ q o. lead q (case q o);
          number = λ q o. number q (case q o);
          whole = λ q r o b e. whole q r (case q o) (case r b) e;
        };
        listed = λ q o. list q (case q o);
        first = λ d r b i. first d r b i (same_cases nat_test d (get_or far p 0));
      }
        where
          low : (q : ℕ) → Which q → get_or v q 0 ≤ q
          low q (old o e) = omega (arith, e, G.gathered.low q o)
          low q (new e) = rw e (omega (arith, here, leader.low))

          lead : (q : ℕ) → Which q → On T side (get_or v q 0) (p + 1)
          lead q (old o e) = rw e (on (get_or u q 0) (G.gathered.leader q o))
          lead q (new e) = rw (e, here) leader.on

          number : (q : ℕ) → Which q → get_or far (get_or v q 0) 0 ≡ get_or far q 0
          number q (old o e) = ap (λ i. get_or far i 0) e ∙ G.gathered.number q o
          number q (new e) = ap (λ z. get_or far (get_or v z 0) 0) e ∙ ap (λ i. get_or far i 0) here ∙ leader.number ∙ ap (λ i. get_or far i 0) (sym e)

          whole : (q r : ℕ) → Which q → Which r → get_or far q 0 ≡ get_or far r 0 → get_or v q 0 ≡ get_or v r 0
          whole q r (old o e) (old b f) i = e ∙ G.gathered.whole q r o b i ∙ sym f
          whole q r (old o e) (new f) i = e ∙ meets q o (i ∙ ap (λ i. get_or far i 0) f) ∙ sym (ap (λ z. get_or v z 0) f ∙ here)
          whole q r (new e) (old b f) i = ap (λ z. get_or v z 0) e ∙ here ∙ sym (f ∙ meets r b (sym i ∙ ap (λ i. get_or far i 0) e))
          whole q r (new e) (new f) i = ap (λ z. get_or v z 0) (e ∙ sym f)

          list : (q : ℕ) → Which q → first_of firsts' (get_or far q 0) ≡ suc (get_or v q 0)
          list q (old o e) = go (same_cases nat_test (get_or far q 0) (get_or far p 0))
            where
              go : SameCases nat_test (get_or far q 0) (get_or far p 0) → first_of firsts' (get_or far q 0) ≡ suc (get_or v q 0)
              go (inl z) = ap (first_of firsts') z.0 ∙ listed ∙ ap suc (sym (e ∙ meets q o z.0))
              go (inr z) = others (get_or far q 0) (N.most q (omega (arith, o.below))) z.0 ∙ G.listed q o ∙ ap suc (sym e)
          list q (new e) = ap (λ z. first_of firsts' (get_or far z 0)) e ∙ listed ∙ ap suc (sym (ap (λ z. get_or v z 0) e ∙ here))

          first : (d r : ℕ) → d < T.states → first_of firsts' d ≡ suc r → SameCases nat_test d (get_or far p 0) → On T side r (p + 1) × (get_or far r 0 ≡ d)
          first d r b i (inl z) = let y : r ≡ x = omega (arith, sym (ap (first_of firsts') z.0) ∙ i, listed) in (rw y leader.on, ap (λ i. get_or far i 0) y ∙ leader.number ∙ sym z.0)
          first d r b i (inr z) = let f = G.first d r b (sym (others d b z.0) ∙ i) in (on r f.0, f.1)

    -- State p joins.
    pub gather_joins : (v firsts' : List ℕ) → length u ≡ T.states → T.states ≤ length firsts → flag_at T.cells.now p ≡ side → Joined far u firsts v firsts' p → Gathering T side far cls v firsts' (p + 1)
    gather_joins v firsts' long room a J = go (same_cases nat_test (first_of firsts d) 0)
      where
        d : ℕ
        d = get_or far p 0

        inside : d < T.states
        inside = N.most p h

        go : SameCases nat_test (first_of firsts d) 0 → Gathering T side far cls v firsts' (p + 1)
        go (inl z) =
            let j = J.listed z.0 in
            rw (j.0, j.1) (gather_more (set u p p) (set firsts d (p + 1)) p a (get_or-set_same u p p 0 (omega (arith, long, h))) (λ q b y. get_or-set_other u p q p 0 y)
            (get_or-set_same firsts d (p + 1) 0 (omega (arith, room, inside)) ∙ omega arith) (λ e b y. get_or-set_other firsts d e (p + 1) 0 y) (inl (refl, z.0)))
        go (inr z) =
            let j = J.joins z.0 in
            let x : ℕ = first_of firsts d - 1 in
            rw (j.0, j.1) (gather_more (set u p x) firsts x a (get_or-set_same u p x 0 (omega (arith, long, h))) (λ q b y. get_or-set_other u p q x 0 y)
            (omega (arith, z.0)) (λ e b y. refl) (inr (omega (arith, z.0))))

-- ---- both answers

module _ (T : Table) (far w u v : List ℕ) (A : Alike T far) (P : Gathered T false far w u T.states) (Q : Gathered T true far u v T.states) where
  -- what holds of each state
  record State (p : ℕ) : Type 0 where
    low : get_or v p 0 ≤ p
    flag : flag_at T.cells.now (get_or v p 0) ≡ flag_at T.cells.now p
    number : get_or far (get_or v p 0) 0 ≡ get_or far p 0
    whole : (q : ℕ) → q < T.states → flag_at T.cells.now q ≡ flag_at T.cells.now p → get_or far q 0 ≡ get_or far p 0 → get_or v q 0 ≡ get_or v p 0

  state : (p : ℕ) → p < T.states → State p
  state p h = go (bool_cases (flag_at T.cells.now p))
    where
      first : (q : ℕ) → q < T.states → flag_at T.cells.now q ≡ false → get_or v q 0 ≡ get_or u q 0
      first q b e = Q.others q b (λ z. false≢true (sym e ∙ z))

      go : (flag_at T.cells.now p ≡ true) ⊎ (flag_at T.cells.now p ≡ false) → State p
      go (inr e) =
          let o : On T false p T.states = record { below = h; answers = e } in
          record {
            low = omega (arith, first p h e, P.low p o);
            flag = ap (flag_at T.cells.now) (first p h e) ∙ (P.leader p o).answers ∙ sym e;
            number = ap (λ i. get_or far i 0) (first p h e) ∙ P.number p o;
            whole = λ q b f i. first q b (f ∙ e) ∙ P.whole q p (record { below = b; answers = f ∙ e }) o i ∙ sym (first p h e);
          }
      go (inl e) =
          let o : On T true p T.states = record { below = h; answers = e } in
          record {
            low = Q.low p o;
            flag = (Q.leader p o).answers ∙ sym e;
            number = Q.number p o;
            whole = λ q b f i. Q.whole q p (record { below = b; answers = f ∙ e }) o i;
          }

  inside : (p : ℕ) → p < size (machine_of T) → p < T.states
  inside p b = rw (machine_size T) at b

  below : (p : ℕ) → p < T.states → get_or v p 0 < T.states
  below p h = omega (arith, (state p h).low)

  pub spread_refining : Refining T v 0
  spread_refining = record {
    led = record {
      low = λ p h. (state p h).low;
      again = λ p h. (state p h).whole (get_or v p 0) (below p h) (state p h).flag (state p h).number;
    };
    coarse = λ p q hp hq e. let h = inside p hp in let b = inside q hq in (state q b).whole p h (flags p q h b (e [] tt)) (A p q hp hq e);
    told = λ p q h b e. accepts p q h b (sym (state p h).flag ∙ ap (flag_at T.cells.now) e ∙ (state q b).flag);
    counted = zero-le;
  }
    where
      accepts : (p q : ℕ) → p < T.states → q < T.states → flag_at T.cells.now p ≡ flag_at T.cells.now q → (automaton (machine_of T)).accepting p ≡ (automaton (machine_of T)).accepting q
      accepts p q h b e = machine_accepting T p h ∙ e ∙ sym (machine_accepting T q b)

      flags : (p q : ℕ) → p < T.states → q < T.states → (automaton (machine_of T)).accepting p ≡ (automaton (machine_of T)).accepting q → flag_at T.cells.now p ≡ flag_at T.cells.now q
      flags p q h b e = sym (machine_accepting T p h) ∙ e ∙ machine_accepting T q b
