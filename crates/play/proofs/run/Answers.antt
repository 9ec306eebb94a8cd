use mathlib.Core.Path.{◌≡◌, ap, ◌∙◌}
use Rattle.std.proofs.Common.{rules, Ok, Err}
use Rattle.job.specs.Job.{image_length}
use Rattle.play.proofs.Parts.{length_zeros}
use Rattle.play.proofs.Printing.{bad_output, good_output, ready, list_fits, list_output, bad_list_output}
use Rattle.play.specs.Inner.{text_of}
use Rattle.play.proofs.run.Goals as goal

pub returns-in_err-list-clause-text : goal.returns-in_err-list-clause-text
returns-in_err-list-clause-text c =
    let r = c.in_err-list.field-0.0 in
    let e : c.from_residual.result ≡ Err r = search rules in
    let w : c.read.result ≡ Err r = search rules in
    ap text_of e ∙ bad_list_output _ _ c.read.ensures r w _

pub run_job-requires-clause-ready : goal.run_job-requires-clause-ready
run_job-requires-clause-ready c =
    let read = c.read_job in
    ready (length_zeros image_length) read.ensures c.in_ok-job.job c.in_ok-job.was (read.auto.image ∙ length_zeros image_length)

pub run_job-requires-clause-vectors_listed : goal.run_job-requires-clause-vectors_listed
run_job-requires-clause-vectors_listed c =
    let w : c.read.result ≡ Ok c.in_ok-list.list = search rules in
    list_fits _ _ c.read.ensures _ w

pub returns-clause-text : goal.returns-clause-text
returns-clause-text c =
    let w : c.read.result ≡ Ok c.in_ok-list.list = search rules in
    c.run_job.ensures.text
    ∙ good_output (length_zeros image_length) c.read_job.ensures c.in_ok-job.job c.in_ok-job.was _
    ∙ list_output _ _ c.read.ensures _ w _

pub returns-in_err-job-clause-text : goal.returns-in_err-job-clause-text
returns-in_err-job-clause-text c =
    let r = c.in_err-job.field-0.0 in
    let e : c.from_residual-in_err-job.result ≡ Err r = search rules in
    let w : c.read.result ≡ Ok c.in_ok-list.list = search rules in
    ap text_of e ∙ bad_output (length_zeros image_length) c.read_job.ensures r c.in_err-job.was _ ∙ list_output _ _ c.read.ensures _ w _
