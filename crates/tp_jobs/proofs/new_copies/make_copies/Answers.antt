-- The copies of one more group stand behind those of the groups before.
use Rattle.std.proofs.Common.{◌≡◌, ◌+◌, ◌++◌, arith, vec_len, length, replicate, ap, sym, ◌∙◌, rules, take}
use Rattle.std.proofs.lemmas.List.Sums.{sum_by_more_le}
use Rattle.tp_script.specs.Form.{GroupForm}
use Rattle.tp_jobs.specs.WaitingCopies.{first_copies, sheet_of, sheets_of}
use Rattle.tp_jobs.proofs.FirstCopies.{first_copies-one_more_group, length-first_copies, length-sheets_of}
use Rattle.tp_jobs.proofs.new_copies.make_copies.Goals as goal

pub put_copies-requires : goal.put_copies-requires
put_copies-requires c =
    let within = sum_by_more_le (λ (g : GroupForm). g.count) c.args.groups.now c.loop-group.group-index c.group-item.result c.loop-group-test.true in
    let count = ap (λ g. g.count) (c.group.view_is ∙ c.group-item.is) in
    omega (arith, within, count, c.loop-group.invariant.len, c.requires)

pub loop-group-preserved : goal.loop-group-preserved
loop-group-preserved c =
    let was : length c.loop-group.copies.items ≡ vec_len c.loop-group.copies = search rules in
    let all =
    first_copies-one_more_group c.args.job c.args.media c.args.groups.now c.loop-group.group-index (vec_len c.loop-group.copies) c.group-item.result
    c.loop-group.copies.items c.put_copies.new.copies.items c.loop-group-test.true c.group-item.is c.loop-group.invariant.copies (sym was)
    (c.in_ok-put_copies.ensures ∙ (λ k. c.loop-group.copies.items ++ first_copies c.args.job (vec_len c.loop-group.copies + 1) (replicate (c.group.view_is k).count (sheet_of c.args.media (c.group.view_is k))))) in
    let now : length c.put_copies.new.copies.items ≡ vec_len c.put_copies.new.copies = search rules in
    record {
      copies = all;
      len =
          sym now ∙ ap length all ∙ length-first_copies c.args.job 1 (sheets_of c.args.media (take (c.loop-group.group-index + 1) c.args.groups.now))
          ∙ length-sheets_of c.args.media (take (c.loop-group.group-index + 1) c.args.groups.now);
    }
