-- A picture is its head, its title, its top, its bars, what is between, its marks and its ending, in turn.
use Rattle.std.proofs.Common.{◌∙◌, ℕ, List, ◌++◌, ap, flat_map}
use Rattle.tp_chart.specs.Bars.{bars_seen}
use Rattle.tp_chart.specs.Pictures.{bar_text, colour_of, mark_text, titled_text}
use Rattle.tp_chart.proofs.picture.add_picture.Goals as goal

pub returns : goal.returns
returns c =
    let head = c.in_ok-add_head.ensures.more in
    let top = c.in_ok-add_top.ensures.more in
    let between = c.in_ok-add_between.ensures.more in
    let ending = c.in_ok-add_ending.ensures.more in
    let scope = c.args.layout.now.frame.scope in
    let jobs = c.args.layout.now.jobs in
    let title = titled_text scope.first c.args.machine.now c.args.scene.now in
    let text = bar_text c.args.machine.now (colour_of jobs) in
    let bars = flat_map text (bars_seen scope c.args.machine.now c.args.scene.now) in
    let marks = flat_map (mark_text (colour_of jobs)) c.args.marks.now in
    let titled = c.in_ok-put_titled.ensures ∙ ap (λ (t : List ℕ). t ++ title) (c.in_ok-add_head.ensures.added ∙ ap (λ (t : List ℕ). t ++ head) c.requires.empty) in
    let topped = c.in_ok-add_top.ensures.added ∙ ap (λ (t : List ℕ). t ++ top) titled in
    let barred = c.in_ok-put_bars.ensures ∙ ap (λ bs. c.add_top.new.out.items ++ flat_map text bs) c.requires.bars ∙ ap (λ (t : List ℕ). t ++ bars) topped in
    let parted = c.in_ok-add_between.ensures.added ∙ ap (λ (t : List ℕ). t ++ between) barred in
    let marked = c.in_ok-put_marks.ensures ∙ ap (λ (t : List ℕ). t ++ marks) parted in
    record {
      head = head;
      top = top;
      jobs = jobs;
      between = between;
      marks = c.args.marks.now;
      marked = c.requires.marks;
      ending = ending;
      drawn = c.in_ok-add_ending.ensures.added ∙ ap (λ (t : List ℕ). t ++ ending) marked;
    }
