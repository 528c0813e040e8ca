-- Lines compiled: from what a line's stages made to the draft behind it.
use mathlib.Core.Path.{◌≡◌, refl, sym, ap, ◌∙◌, subst}
use mathlib.Core.List.{List, [], ◌∷◌, ◌++◌}
use Prim.Native.Nat.{ℕ, suc, ◌≤◌, ◌<◌, max}
use native.Mathlib.Omega.{arith}
use lib.ListN.{length}
use Rattle.automata.specs.Format.{narrow}
use Rattle.automata.specs.Basics.{ltb_lt}
use Rattle.automata.specs.Machine.{Machine}
use Rattle.automata.specs.Stage.{made, refused}
use Rattle.language.specs.Environment.{names_of}
use Rattle.book.specs.Text.{Line, Form, define, rule, malformed}
use Rattle.book.specs.Line.{LineRead, reads, stops, read_line}
use Rattle.book.specs.LineLaws.{KnownForm}
use Rattle.book.proofs.LineLaws.{line_elim}
use Rattle.compiler.specs.Book.{Draft, on, off, on_made, compile_form, after_read, compile_line}
use Rattle.compiler.specs.Outcome.{most}
use Rattle.reader.specs.Names.{Holds}
use Rattle.scans.specs.Lines.{line_at}
use Rattle.reader.specs.Answers.{Reads, WrittenName, WrittenRule, ReadsNext}
use Rattle.reader.specs.Answers as answers
use Rattle.book.specs.Refusals.{refusal_number}
use Rattle.book.specs.declared.refusal.Refusal as refused_line
use Rattle.forms.specs.declared.Code.{Code}
use Rattle.forms.specs.declared.Code.TheVariants as form_code
use Rattle.reader.specs.declared.line.Line as read_line_of
use Rattle.evaluate.specs.Evaluated.{Evaluates, line_made}
use Rattle.evaluate.specs.Steps.{number_of}
use Rattle.evaluate.specs.declared.run.Failure.{Failure}
use Rattle.std.specs.Prelude.{Result, Ok, Err, IfOk, IfErr, take}
use Rattle.std.proofs.lemmas.Result.{IfOk-at_ok, IfErr-at_err}
use Rattle.kept.specs.Stored.{InSlot, Registers, Keeps, Right, Shelves}
use Rattle.kept.specs.declared.Place.{Place}
use Rattle.kept.specs.declared.Place.TheVariants as place
use Rattle.line.specs.Line.{Program, Runs, Drafted, FormSays, CompilesForm, IsForm, Finishes, Going, LineSays, CompilesLine}
use Rattle.progress.specs.Progress.{Behind, tell_of, tell_code}
use Rattle.progress.specs.declared.Book.{Book}
use Rattle.progress.specs.declared.Read.{Read}
use Rattle.compiler.specs.Refusals.{reason_number}
use Rattle.compiler.specs.declared.LineRefusal.{LineRefusal}
use Rattle.compiler.specs.declared.Reason.TheVariants.{NotRead}
use Rattle.line.proofs.RunLaws.{layout, stages_made, stages_stopped}
use Rattle.answers.specs.declared.Scratch.{Scratch}

-- The peak of two rows of stages is the greater of their peaks.
most_append : (cs ds : List ℕ) → most (cs ++ ds) ≡ max (most cs) (most ds)
most_append [] ds = omega arith
most_append (c ∷ cs) ds = let e : most (cs ++ ds) ≡ max (most cs) (most ds) = most_append cs ds in omega arith

-- ---- forms

module _ (ls : List ℕ) (d : Draft) (b : Book) (low high registers : List ℕ) (D : Drafted ls d b low high registers) where
  -- a form whose machine was made and kept at its place
  form_on : (pl : Place) (F : Form) → IsForm pl F → (next p : ℕ) (n : Book) (stack low' high' registers' registers'' : List ℕ) → length ls ≤ 26
      → (counts : List ℕ) × (M : Machine) × (line_made narrow ls d.env d.kept F ≡ made counts M) × (p ≡ most counts) × InSlot (length ls) stack M × Registers (length ls) d.kept registers'
      → Keeps pl stack low high registers' low' high' registers'' → Behind pl b next p n → FormSays ls d F b next low' high' registers'' (Ok n)
  unfolding compile_form
  form_on (place.Name x) F (e, f) next p n stack low' high' registers' registers'' few (counts, M, q, pk, H, R) K U = (
    record { env = (x, M) ∷ d.env; counts = d.counts ++ counts; kept = d.kept },
    ap (compile_form narrow ls d) f
        ∙ ap (λ r. on_made r (λ counts M. on (record { env = (x, M) ∷ d.env; counts = d.counts ++ counts; kept = d.kept }))) (sym (ap (line_made narrow ls d.env d.kept) f) ∙ q),
    record {
      stored = K.stored (length ls) d.env d.kept M few H (record { names = D.stored.names; registers = R });
      names = U.names.more (names_of d.env) D.names;
      peak = omega (arith, U.peak, D.peak, pk, most_append d.counts counts);
    },
    U.at,
    U.line,
  )
  form_on place.Book F (kind, P, cs, f) next p n stack low' high' registers' registers'' few (counts, M, q, pk, H, R) K U = (
    record { env = d.env; counts = d.counts ++ counts; kept = M },
    ap (compile_form narrow ls d) f
        ∙ ap (λ r. on_made r (λ counts M. on (record { env = d.env; counts = d.counts ++ counts; kept = M }))) (sym (ap (line_made narrow ls d.env d.kept) f) ∙ q),
    record {
      stored = K.stored (length ls) d.env d.kept M few H (record { names = D.stored.names; registers = R });
      names = rw U.names D.names;
      peak = omega (arith, U.peak, D.peak, pk, most_append d.counts counts);
    },
    U.at,
    U.line,
  )

  -- a form whose stages stop
  form_off : (F : Form) (next : ℕ) (n : LineRefusal) (low' high' registers' : List ℕ) → line_made narrow ls d.env d.kept F ≡ refused (reason_number n.reason) → n.line ≡ b.line
      → FormSays ls d F b next low' high' registers' (Err n)
  unfolding compile_form
  form_off (define x e) next n low' high' registers' q l = (ap (λ r. on_made r (λ counts M. on (record { env = (x, M) ∷ d.env; counts = d.counts ++ counts; kept = d.kept }))) q, l)
  form_off (rule kind p cs) next n low' high' registers' q l = (ap (λ r. on_made r (λ counts M. on (record { env = d.env; counts = d.counts ++ counts; kept = M }))) q, l)
  form_off malformed next n low' high' registers' q l = (ap (λ r. on_made r (λ counts M. on d)) q, l)

module _ (ls : List ℕ) (b : Book) (next len : ℕ) (code low high registers registers' stack : List ℕ) (r : Result ℕ Failure) (E : Evaluates layout ls low high (take len code) registers registers' stack r) where
  form_goes : (pl : Place) (p : ℕ) → r ≡ Ok p → length ls ≤ 26 → (n : Book) (low' high' registers'' : List ℕ) → Keeps pl stack low high registers' low' high' registers''
      → Behind pl b next p n → CompilesForm ls b next len code low high registers low' high' registers'' (IsForm pl) (Ok n)
  form_goes pl p e few n low' high' registers'' K U = record {
    says = λ d F i D P.
        form_on ls d b low high registers D pl F i next p n stack low' high' registers' registers'' few
        (stages_made ls len code low high registers registers' stack r E d.env d.kept F D.stored P p e) K U;
  }

  form_stops : (pl : Place) (k : Failure) → r ≡ Err k → (n : LineRefusal) (low' high' registers'' : List ℕ) → reason_number n.reason ≡ number_of k → n.line ≡ b.line
      → CompilesForm ls b next len code low high registers low' high' registers'' (IsForm pl) (Err n)
  form_stops pl k e n low' high' registers'' z l = record {
    says = λ d F i D P.
        let s : line_made narrow ls d.env d.kept F ≡ refused (number_of k) = stages_stopped ls len code low high registers registers' stack r E d.env d.kept F D.stored P k e in
        form_off ls d b low high registers D F next n low' high' registers'' (s ∙ ap refused (sym z)) l;
  }

-- a form whose program was run
pub form_run : (ls : List ℕ) (b : Book) (code low high registers registers' stack : List ℕ) (r : Result ℕ Failure) (t : Read) → Evaluates layout ls low high (take t.len code) registers registers' stack r
    → length ls ≤ 26 → (n : Result Book LineRefusal) (low' high' registers'' : List ℕ) → Finishes t b stack low high registers' low' high' registers'' n r
    → CompilesForm ls b t.next t.len code low high registers low' high' registers'' (IsForm t.place) n
form_run ls b code low high registers registers' stack r t E few n low' high' registers'' F = go r refl F
  where
    go : (q : Result ℕ Failure) → r ≡ q → Finishes t b stack low high registers' low' high' registers'' n q
        → CompilesForm ls b t.next t.len code low high registers low' high' registers'' (IsForm t.place) n
    go (Ok p) e (K, m, i, U) =
        subst (CompilesForm ls b t.next t.len code low high registers low' high' registers'' (IsForm t.place)) (sym i)
        (form_goes ls b t.next t.len code low high registers registers' stack r E t.place p e few m low' high' registers'' K U)
    go (Err k) e (m, i, z, l) =
        subst (CompilesForm ls b t.next t.len code low high registers low' high' registers'' (IsForm t.place)) (sym i)
        (form_stops ls b t.next t.len code low high registers registers' stack r E t.place k e m low' high' registers'' z l)

-- what keeping the machine asks of the buffers behind the run
pub kept_asks : {text ls : List ℕ} {b : Book} {low high registers stack : List ℕ} {scratch : Scratch} {code : List ℕ} → Going text ls b low high registers stack scratch code
    → (registers' stack' : List ℕ) → length registers' ≡ length registers → length stack' ≡ length stack → (3362 ≤ length stack') × Shelves low high registers'
kept_asks G registers' stack' e f =
    (omega (arith, G.room.stack, f), record { low = G.room.low; high = G.room.high; registers = omega (arith, G.room.registers, e) })

-- ---- lines

-- the letters and names of a form that was read are known
known_form : (ls names : List ℕ) (l : Line) (F : Form) → read_line ls names l ≡ reads F → KnownForm ls names F
known_form ls names l F e = subst Known e (line_elim ls names l Known (λ r. tt) (λ G k n q. k))
  where
    Known : LineRead → Type 0
    Known (reads G) = KnownForm ls names G
    Known (stops r) = Unit {0}

-- a line that was read, as its program
pub written_program : {o₀ : List ℕ} (l : Line) (ls : List ℕ) (b : Book) (o : List ℕ) (len : ℕ) (F : Form) (d : Draft) → Holds b.names (names_of d.env) → answers.Written l ls b.names o₀ o len F
    → Program ls (names_of d.env) len o F
written_program l ls b o len F d H W = record {
  code = W.code;
  fits = W.fits;
  held = W.held;
  known = known_form ls (names_of d.env) l F (W.reads_as.is (names_of d.env) H);
}

module _ (text ls : List ℕ) (b : Book) {o₀ : List ℕ} (o : List ℕ) (a : Result read_line_of.Line refused_line.Refusal) (R : ReadsNext text b.at ls b.names o₀ o a) where
  abbrev line : Line
  line = line_at text b.at R.end

  named : (x len next : ℕ) → a ≡ Ok (record { code = form_code.Define x len; next = next }) → WrittenName line ls b.names o₀ o x len × (next ≡ suc R.end)
  named x len next e = subst (answers.NextSays line R.end ls b.names o₀ o) e R.says

  ruled : (len next : ℕ) → a ≡ Ok (record { code = form_code.Rule len; next = next }) → WrittenRule line ls b.names o₀ o len × (next ≡ suc R.end)
  ruled len next e = subst (answers.NextSays line R.end ls b.names o₀ o) e R.says

  -- a form compiled is its line compiled
  goes : (F : Form) (d : Draft) (next len : ℕ) (low high registers low' high' registers' : List ℕ) (r : Result Book LineRefusal) → answers.Written line ls b.names o₀ o len F → next ≡ suc R.end
      → Drafted ls d b low high registers → FormSays ls d F b next low' high' registers' r → LineSays text ls d b R.end low' high' registers' r
  unfolding compile_line
  goes F d next len low high registers low' high' registers' (Ok r) W n D (d', q, D', at, ln) =
      (d', ap (λ x. after_read x (compile_form narrow ls d)) (W.reads_as.is (names_of d.env) D.names) ∙ q, D', at ∙ n, ln, ltb_lt R.end (length text) W.whole)
  goes F d next len low high registers low' high' registers' (Err r) W n D (q, l) =
      (ap (λ x. after_read x (compile_form narrow ls d)) (W.reads_as.is (names_of d.env) D.names) ∙ q, l)

  line_defined : (x len next : ℕ) (low high registers low' high' registers' : List ℕ) (r : Result Book LineRefusal) → a ≡ Ok (record { code = form_code.Define x len; next = next })
      → CompilesForm ls b next len o low high registers low' high' registers' (IsForm (place.Name x)) r → CompilesLine text ls b low high registers low' high' registers' r
  line_defined x len next low high registers low' high' registers' r e C = record {
    end = R.end;
    ends = R.ends;
    says = λ d D.
        let (w, n) = named x len next e in
        goes (define x w.body) d next len low high registers low' high' registers' r w.written n D
        (C.says d (define x w.body) (w.body, refl) D (written_program line ls b o len (define x w.body) d D.names w.written));
  }

  line_ruled : (len next : ℕ) (low high registers low' high' registers' : List ℕ) (r : Result Book LineRefusal) → a ≡ Ok (record { code = form_code.Rule len; next = next })
      → CompilesForm ls b next len o low high registers low' high' registers' (IsForm place.Book) r → CompilesLine text ls b low high registers low' high' registers' r
  line_ruled len next low high registers low' high' registers' r e C = record {
    end = R.end;
    ends = R.ends;
    says = λ d D.
        let (w, n) = ruled len next e in
        goes (rule w.kind w.pattern w.contexts) d next len low high registers low' high' registers' r w.written n D
        (C.says d (rule w.kind w.pattern w.contexts) (w.kind, w.pattern, w.contexts, refl) D (written_program line ls b o len (rule w.kind w.pattern w.contexts) d D.names w.written));
  }

  line_stops : (k : refused_line.Refusal) (n : LineRefusal) (low high registers low' high' registers' : List ℕ) → a ≡ Err k → reason_number n.reason ≡ refusal_number k → n.line ≡ b.line
      → CompilesLine text ls b low high registers low' high' registers' (Err n)
  unfolding compile_line
  line_stops k n low high registers low' high' registers' e z l = record {
    end = R.end;
    ends = R.ends;
    says = λ d D.
        let w : Reads line ls b.names (stops (refusal_number k)) = subst (answers.NextSays line R.end ls b.names o₀ o) e R.says in
        (ap (λ x. after_read x (compile_form narrow ls d)) (w.is (names_of d.env) D.names) ∙ ap off (sym z), l);
  }

  -- the program of a line that was read, over the machines so far
  runs_define : (x len next : ℕ) (low high registers stack : List ℕ) (scratch : Scratch) (code : List ℕ) → a ≡ Ok (record { code = form_code.Define x len; next = next }) → Going text ls b low high registers stack scratch code
      → Runs ls len o low high registers stack scratch
  runs_define x len next low high registers stack scratch code e G =
      let (w, n) = named x len next e in
      record {
        env = G.draft.env;
        kept = G.draft.kept;
        form = define x w.body;
        stored = G.drafted.stored;
        program = written_program line ls b o len (define x w.body) G.draft G.drafted.names w.written;
        letters = G.letters;
        room = G.room;
      }

  runs_rule : (len next : ℕ) (low high registers stack : List ℕ) (scratch : Scratch) (code : List ℕ) → a ≡ Ok (record { code = form_code.Rule len; next = next }) → Going text ls b low high registers stack scratch code
      → Runs ls len o low high registers stack scratch
  runs_rule len next low high registers stack scratch code e G =
      let (w, n) = ruled len next e in
      record {
        env = G.draft.env;
        kept = G.draft.kept;
        form = rule w.kind w.pattern w.contexts;
        stored = G.drafted.stored;
        program = written_program line ls b o len (rule w.kind w.pattern w.contexts) G.draft G.drafted.names w.written;
        letters = G.letters;
        room = G.room;
      }

  -- ---- by what the reader says of the line

  -- the program of a line that was read, over the machines so far
  pub told_runs : (v : Read) → tell_of a b.line ≡ Ok v → (low high registers stack : List ℕ) (scratch : Scratch) (code : List ℕ) → Going text ls b low high registers stack scratch code
      → Runs ls v.len o low high registers stack scratch × (Right v.place × (b.line < 65536))
  told_runs v i low high registers stack scratch code G = IfOk-at_ok (λ v. Runs ls v.len o low high registers stack scratch × (Right v.place × (b.line < 65536))) i (go a refl)
    where
      on_code : (x : Code) (next : ℕ) → a ≡ Ok (record { code = x; next = next })
          → Runs ls (tell_code x next).len o low high registers stack scratch × (Right (tell_code x next).place × (b.line < 65536))
      on_code (form_code.Define x len) next e = (runs_define x len next low high registers stack scratch code e G, ((named x len next e).0.named, G.line))
      on_code (form_code.Rule len) next e = (runs_rule len next low high registers stack scratch code e G, (tt, G.line))

      go : (q : Result read_line_of.Line refused_line.Refusal) → a ≡ q → IfOk (tell_of q b.line) (λ v. Runs ls v.len o low high registers stack scratch × (Right v.place × (b.line < 65536)))
      go (Ok n) e = on_code n.code n.next e
      go (Err k) e = tt

  pub told_line : (v : Read) → tell_of a b.line ≡ Ok v → (low high registers low' high' registers' : List ℕ) (r : Result Book LineRefusal)
      → CompilesForm ls b v.next v.len o low high registers low' high' registers' (IsForm v.place) r → CompilesLine text ls b low high registers low' high' registers' r
  told_line v i low high registers low' high' registers' r =
      IfOk-at_ok (λ v. CompilesForm ls b v.next v.len o low high registers low' high' registers' (IsForm v.place) r → CompilesLine text ls b low high registers low' high' registers' r) i (go a refl)
    where
      on_code : (x : Code) (next : ℕ) → a ≡ Ok (record { code = x; next = next })
          → CompilesForm ls b (tell_code x next).next (tell_code x next).len o low high registers low' high' registers' (IsForm (tell_code x next).place) r → CompilesLine text ls b low high registers low' high' registers' r
      on_code (form_code.Define x len) next e C = line_defined x len next low high registers low' high' registers' r e C
      on_code (form_code.Rule len) next e C = line_ruled len next low high registers low' high' registers' r e C

      go : (q : Result read_line_of.Line refused_line.Refusal) → a ≡ q → IfOk (tell_of q b.line) (λ v. CompilesForm ls b v.next v.len o low high registers low' high' registers' (IsForm v.place) r → CompilesLine text ls b low high registers low' high' registers' r)
      go (Ok n) e = λ C. on_code n.code n.next e C
      go (Err k) e = tt

  pub told_off : (n : LineRefusal) → tell_of a b.line ≡ Err n → (low high registers low' high' registers' : List ℕ) → CompilesLine text ls b low high registers low' high' registers' (Err n)
  told_off n i low high registers low' high' registers' =
      IfErr-at_err (λ n. CompilesLine text ls b low high registers low' high' registers' (Err n)) i (go a refl)
    where
      go : (q : Result read_line_of.Line refused_line.Refusal) → a ≡ q → IfErr (tell_of q b.line) (λ n. CompilesLine text ls b low high registers low' high' registers' (Err n))
      go (Ok n) e = tt
      go (Err k) e = line_stops k (record { reason = NotRead k; line = b.line }) low high registers low' high' registers' e refl refl
