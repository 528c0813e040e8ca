use Rattle.std.proofs.Common.{rules, sym, subst}
use Rattle.std.specs.Io.KnownBytes.{Consumes}
use Rattle.std.proofs.KnownBytes.{Consumes-trans}
use Rattle.stream.proofs.ReadLaws.{read_behind}
use Rattle.stream.proofs.read_full.Goals as goal

pub loop-done-preserved : goal.loop-done-preserved
loop-done-preserved g c =
    let v = c.loop-done.invariant in (
      search rules,
      search rules,
      subst (Consumes _ _) (sym (read_behind c.loop-done.done _ c.in_ok-n.n c.loop-done.buf c.read.new.buf v.0 c.in_ok-n.ensures.bound.0))
          (Consumes-trans _ _ _ _ _ v.2 c.in_ok-n.ensures.bytes.0),
    )
