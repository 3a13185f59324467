-- How a source is told that gave no job.
use Rattle.job_input.specs.declared.faults.InputFault.{InputFault}
use Rattle.job_input.specs.declared.faults.InputFault.TheVariants.{Source, Job}
use Rattle.refusals.specs.Meaning.{RefusalView, read_refusal, jobless_refusal}

abbrev pub input_refusal : InputFault → RefusalView
input_refusal (Source e) = read_refusal e
input_refusal (Job e) = jobless_refusal e
