mod LineOpenings
mod LineSteps
